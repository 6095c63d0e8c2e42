-- A step of the core, whole: one event with its reply.
use Rattle.std.specs.Prelude.{◌≡◌, ◌≤◌, ◌&&◌, ℕ, length, not, [], Option, Some}
use Rattle.jlr_machine.specs.declared.machine.Machine.{Machine}
use Rattle.jlr_machine.specs.declared.ask.Ask.{Ask}
use Rattle.jlr_machine.specs.declared.ask.Ask.TheVariants.{Collect, Prepare}
use Rattle.jlr_machine.specs.declared.ask.Answer.TheVariants.{Truth}
use Rattle.jlr_machine.specs.Chosen.{Chosen}
use Rattle.jlr_machine.specs.Run.{empty_from}
use Rattle.jlr_resource.specs.Resources.{Resources, resources, values}
use Rattle.jlr_barrier.specs.Graphs.{empty_known}
use Rattle.jlr_event.specs.declared.event.Event.{Event}
use Rattle.jlr_event.specs.declared.event.Reply.{Reply}
use Rattle.jlr_event.specs.Events.{ask_of, answer_in, resource_of_event, resource_of_reply}
use Rattle.jlr_steps.specs.Cores.{Kept, StandsIn}
use Rattle.jlr_state.specs.Events.{EntersLegally, WantsMemory}
use Rattle.jlr_state.specs.Flows.{Conserves, GoesOut, Moves}
use Rattle.jlr_state.specs.Policy.{KeepsByPolicy, clock_after}
use Rattle.jlr_state.specs.Marks.{Begins, BlackensNew, AnswersPiece, SweepsAll, budget_of, has_grey}

-- The core of the empty machine of these limits, whose first action number is this one, with no file or socket.
pub record IsEmpty {R : Type 0} (cells sessions limit soft_age first : ℕ) (core : Kept R) : Type 0 where
  pub machine : core.machine ≡ empty_from cells sessions limit first
  pub age : core.soft_age ≡ soft_age
  pub clock : core.clock ≡ (empty_known cells sessions).clock
  pub none_held : values core.table ≡ []
  pub listed : resources core.table ≡ core.machine.resources

-- only a `Prepare` makes room in the table of files and sockets, and nothing takes room away
abbrev pub LeavesRoom : {R : Type 0} → Option Ask → Resources R → Resources R → Type 0
LeavesRoom (Some (Prepare k)) old new = old.room ≤ new.room
LeavesRoom ask old new = new.room ≡ old.room

-- The event and its reply are, with this choice, a legal entry of each machine for which the core stands, and the core
-- then stands for the machine after it.
pub record IsStep {R : Type 0} (old : Kept R) (event : Event R) (reply : Reply R) (chosen : Chosen)
    (new : Kept R) : Type 0 where
  pub entry : (m : Machine) → StandsIn old m → (n : Machine) × EntersLegally m (ask_of event) (answer_in reply) chosen n
      × StandsIn new n
  pub cells : length new.machine.objects ≡ length old.machine.objects
  -- no file or socket is made or lost; at one Rid at most lies something else then, and what goes out is what lay
  -- there. The table is that of the machine's resources, so what comes in lies at the Rid that the machine says
  pub flow : Conserves (resource_of_event event) old.table (resource_of_reply reply) new.table
  pub moves : Moves (resource_of_event event) old.table (resource_of_reply reply) new.table
  pub listed : resources new.table ≡ new.machine.resources
  pub goes_out : GoesOut old.table (resource_of_event event) (answer_in reply) (resource_of_reply reply)
  -- where memory may run out, and what room there is from then on
  pub memory : WantsMemory old.machine old.table (ask_of event) (answer_in reply)
  pub table_room : LeavesRoom (ask_of event) old.table new.table
  -- a cycle begins with its roots; a piece of marking ticks for each part that it follows, or sweeps; any other event
  -- blackens just the objects that it makes
  pub begins : Begins (ask_of event) old.machine new.machine new.marking
  pub marking : AnswersPiece (budget_of event) old.soft_age old.clock old.machine old.marking old.condemned reply
      new.marking
      new.condemned
  pub blackens : BlackensNew event old.machine old.marking chosen new.machine new.marking
  -- a Collect is answered yes exactly where a cycle is open and no cell is grey
  pub collects : ask_of event ≡ Some Collect
      → answer_in reply ≡ Some (Truth (old.machine.cycle_open && not (has_grey old.marking)))
  -- a full collection that was asked for leaves no cell condemned
  pub swept : SweepsAll (ask_of event) (answer_in reply) new.condemned
  -- what a collection keeps, and when soft references were last used
  pub policy : KeepsByPolicy old.soft_age old.clock old.machine old.marking (ask_of event) chosen
  pub age : new.soft_age ≡ old.soft_age
  pub clock : new.clock ≡ clock_after old.machine old.clock (ask_of event) (answer_in reply) chosen

-- a step with some choice
abbrev pub Steps : {R : Type 0} → Kept R → Event R → Reply R → Kept R → Type 0
Steps old event reply new = (chosen : Chosen) × IsStep old event reply chosen new
