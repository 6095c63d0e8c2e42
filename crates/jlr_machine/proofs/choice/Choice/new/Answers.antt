use Rattle.std.proofs.Common.{arith}
use Rattle.jlr_machine.proofs.Members.{empty_slots}
use Rattle.jlr_machine.proofs.choice.Choice.new.Goals as goal

pub invariant_of-result : goal.invariant_of-result
invariant_of-result c = (
  c.in_ok-with_cells.ensures.room,
  omega (arith, c.in_ok-with_capacity.ensures.capacity),
  λ _. rw c.in_ok-with_cells.ensures.empty (empty_slots _),
  λ _. c.in_ok-with_capacity.ensures.items,
)
