use Rattle.std.proofs.Common.{◌≡◌, take}
use Rattle.jlr_sets.specs.SlotSets.{slots_of, NoneFrom}
use Rattle.jlr_machine.proofs.kept.fill.Given as goal

abbrev pub invariant-loop-slot : goal.invariant-loop-slot
invariant-loop-slot l =
    record { is : slots_of l.set ≡ take l.count l.slots; counted : l.count ≡ l.slot-index; none : NoneFrom l.set l.from }
