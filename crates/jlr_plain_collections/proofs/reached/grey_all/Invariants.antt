use Rattle.std.proofs.Common.{take}
use Rattle.jlr_machine.specs.Objects.{◌∈◌}
use Rattle.jlr_plain_collections.specs.Marks.{Greyed}
use Rattle.jlr_plain_collections.proofs.reached.grey_all.Given as goal

abbrev pub invariant-loop-slot : goal.invariant-loop-slot
invariant-loop-slot l = Greyed (λ s. s ∈ take l.slot-index l.slots) l.fn.marks l.fn.todo.items l.marks l.todo.items
