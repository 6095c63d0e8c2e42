use Rattle.std.proofs.Common.{◌≡◌, take}
use Rattle.jlr_machine.specs.Lookups.{unbound}
use Rattle.jlr_plain_asks.proofs.changes.lists.name_unbound.Given as goal

abbrev pub invariant-loop-binding : goal.invariant-loop-binding
invariant-loop-binding l = l.out.items ≡ unbound (take l.binding-index l.names) l.name
