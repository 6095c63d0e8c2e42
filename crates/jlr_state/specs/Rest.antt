-- What an ask leaves of a core's state beside what it is asked for.
use Rattle.std.specs.Prelude.{◌≡◌, length}
use Rattle.jlr_machine.specs.Choices.{Choosing}
use Rattle.jlr_state.specs.declared.state.State.{State}
use Rattle.jlr_state.specs.Collecting.{after_choice}

-- an ask on objects, handles, queues or names
pub record LeavesRest {R : Type 0} (old new : State R) : Type 0 where
  pub cells : length new.heap.graph.objects ≡ length old.heap.graph.objects
  pub age : new.soft_age ≡ old.soft_age
  pub cleaner : new.cleaner ≡ old.cleaner
  pub clock : new.heap.clock ≡ old.heap.clock

-- an ask that may make objects, with what was chosen for it: the clock counts the cells that were taken, and a
-- collection
pub record LeavesRestMaking {R : Type 0} (old : State R) (before after : Choosing) (new : State R) : Type 0 where
  pub room : after.cells ≡ before.cells
  pub cells : length new.heap.graph.objects ≡ length old.heap.graph.objects
  pub age : new.soft_age ≡ old.soft_age
  pub cleaner : new.cleaner ≡ old.cleaner
  pub clock : new.heap.clock ≡ after_choice after.chosen old.heap.clock

-- an ask on files and sockets, whose table keeps its room
pub record LeavesSizes {R : Type 0} (old new : State R) : Type 0 where
  pub cells : length new.heap.graph.objects ≡ length old.heap.graph.objects
  pub age : new.soft_age ≡ old.soft_age
  pub table_room : new.cleaner.table.room ≡ old.cleaner.table.room
  pub clock : new.heap.clock ≡ old.heap.clock
