-- What one event does to a core's state.
use Rattle.std.specs.Prelude.{◌≡◌, ◌&&◌, length, not, Option, Some}
use Rattle.jlr_machine.specs.declared.ask.Answer.{Answer}
use Rattle.jlr_machine.specs.declared.ask.Answer.TheVariants.{Truth}
use Rattle.jlr_machine.specs.declared.ask.Ask.TheVariants.{Collect}
use Rattle.jlr_machine.specs.Chosen.{Chosen}
use Rattle.jlr_event.specs.declared.event.Event.{Event}
use Rattle.jlr_event.specs.Events.{ask_of, resource_of_event}
use Rattle.jlr_state.specs.declared.state.State.{State}
use Rattle.jlr_state.specs.Machines.{machine_of}
use Rattle.jlr_state.specs.Events.{WantsMemory}
use Rattle.jlr_state.specs.Flows.{Conserves, GoesOut, Moves}
use Rattle.jlr_state.specs.Marks.{Begins, BlackensNew, MarksReached, SweepsAll, has_grey}
use Rattle.jlr_state.specs.Policy.{KeepsByPolicy, clock_after}
use Rattle.jlr_state.specs.Waiting.{WaitsOn}
use Rattle.jlr_steps.specs.Steps.{LeavesRoom}

-- An event with its answer, what was chosen and what goes out, beside the machine's entry: the parts of a step
-- (IsStep) that are said of the state itself, with the marks and the actions that wait.
pub record StepsState {R : Type 0} (old : State R) (event : Event R) (answer : Option Answer) (chosen : Chosen)
    (out : Option R) (new : State R) : Type 0 where
  pub flow : Conserves (resource_of_event event) old.cleaner.table out new.cleaner.table
  pub moves : Moves (resource_of_event event) old.cleaner.table out new.cleaner.table
  pub goes_out : GoesOut old.cleaner.table (resource_of_event event) answer out
  pub memory : WantsMemory (machine_of old) old.cleaner.table (ask_of event) answer
  pub table_room : LeavesRoom (ask_of event) old.cleaner.table new.cleaner.table
  pub reached : MarksReached (machine_of old) old.heap.marking (machine_of new) new.heap.marking
  pub begins : Begins (ask_of event) (machine_of old) (machine_of new) new.heap.marking
  pub blackens : BlackensNew event (machine_of old) old.heap.marking chosen (machine_of new) new.heap.marking
  pub collects : ask_of event ≡ Some Collect
      → answer ≡ Some (Truth (old.cycle_open && not (has_grey old.heap.marking)))
  pub swept : SweepsAll (ask_of event) answer new.heap.condemned
  pub policy : KeepsByPolicy old.soft_age old.heap.clock (machine_of old) old.heap.marking (ask_of event) chosen
  pub age : new.soft_age ≡ old.soft_age
  pub clock : new.heap.clock ≡ clock_after (machine_of old) old.heap.clock (ask_of event) answer chosen
  pub cells : length new.heap.graph.objects ≡ length old.heap.graph.objects
  pub waits : WaitsOn (machine_of new) old.cleaner new.cleaner
