use Rattle.std.proofs.Common.{◌≡◌, take}
use Rattle.jlr_machine.specs.Lookups.{bound_names}
use Rattle.jlr_plain_asks.proofs.answers.replies.names_bound.Given as goal

-- the names so far
abbrev pub invariant-loop-binding : goal.invariant-loop-binding
invariant-loop-binding l = l.out.items ≡ bound_names (take l.binding-index l.names)
