use Rattle.std.proofs.Common.{◌≡◌, ◌≤◌, ◌-◌, length}
use Rattle.jlr_sets.specs.SlotSets.{slots_below}
use Rattle.jlr_sets.proofs.slots.SlotSet.to_vec.Given as goal

abbrev pub invariant-loop-slot : goal.invariant-loop-slot
invariant-loop-slot l = record { is : l.slots.items ≡ slots_below l.from l.self; within : l.from ≤ length l.self }

abbrev pub decreases-loop-slot : goal.decreases-loop-slot
decreases-loop-slot l = length l.self - l.from
