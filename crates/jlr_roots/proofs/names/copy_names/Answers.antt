use Rattle.std.proofs.Common.{rules, ◌≡◌, ◌∙◌, map}
use Rattle.std.specs.Map.{keys_of}
use Rattle.std.specs.Map.Iter.{deref}
use Rattle.std.proofs.lemmas.Map.Iter.{iter_end}
use Rattle.jlr_roots.proofs.Bindings.{names_there}
use Rattle.jlr_roots.proofs.names.copy_names.Goals as goal

pub returns-clause-names : goal.returns-clause-names
returns-clause-names c =
    let all : map deref c.loop-name.yielded ≡ keys_of c.args.slots.now.entries = search (rules, iter_end) in
    c.loop-name.invariant ∙ all ∙ names_there c.args.slots.now.entries
