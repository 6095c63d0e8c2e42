use Rattle.std.proofs.Common.{◌∙◌, ap}
use Rattle.jlr_machine.specs.Lookups.{unbound}
use Rattle.jlr_roots.specs.Naming.{bindings_of}
use Rattle.jlr_roots.proofs.Bindings.{removed}
use Rattle.jlr_roots.proofs.names.Names.unbind.Goals as goal

pub returns : goal.returns
returns c =
    ap bindings_of c.shift_remove.ensures.entries
    ∙ removed c.args.name.now c.self.inside.slots.entries c.len-count.ensures.unique
    ∙ ap (λ l. unbound l c.args.name.now) c.self.view_is
