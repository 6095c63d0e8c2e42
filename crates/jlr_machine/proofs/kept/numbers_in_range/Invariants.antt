use Rattle.std.proofs.Common.{take}
use Rattle.std.specs.List.{All}
use Rattle.jlr_sets.specs.SlotSets.{IsSlotNumber}
use Rattle.jlr_machine.proofs.kept.numbers_in_range.Given as goal

-- the slots so far
abbrev pub invariant-loop-slot : goal.invariant-loop-slot
invariant-loop-slot l = All IsSlotNumber (take l.slot-index l.slots)
