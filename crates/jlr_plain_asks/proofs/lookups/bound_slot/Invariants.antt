use Rattle.std.proofs.Common.{◌≡◌, drop}
use Rattle.jlr_machine.specs.Lookups.{slot_bound}
use Rattle.jlr_plain_asks.proofs.lookups.bound_slot.Given as goal

abbrev pub invariant-loop-binding : goal.invariant-loop-binding
invariant-loop-binding l = slot_bound (drop l.binding-index l.names) l.name ≡ slot_bound l.names l.name
