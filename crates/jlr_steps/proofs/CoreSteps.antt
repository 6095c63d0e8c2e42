-- A step of the state is a step of the core.
use Rattle.std.proofs.Common.{Option, refl}
use Rattle.jlr_machine.specs.declared.ask.Answer.{Answer}
use Rattle.jlr_machine.specs.Chosen.{Chosen}
use Rattle.jlr_machine.specs.WellFormed.{IsWellFormed}
use Rattle.jlr_event.specs.declared.event.Event.{Event}
use Rattle.jlr_event.specs.declared.event.Reply.{Reply}
use Rattle.jlr_event.specs.Events.{ask_of, answer_in, resource_of_reply}
use Rattle.jlr_state.specs.declared.state.State.{State}
use Rattle.jlr_state.specs.Events.{StepsMachine}
use Rattle.jlr_state.specs.Machines.{machine_of}
use Rattle.jlr_state.specs.Marks.{AnswersPiece, budget_of}
use Rattle.jlr_state.specs.Waiting.{AllWait}
use Rattle.jlr_state.proofs.Stepping.{well_formed_after, enters}
use Rattle.jlr_state.proofs.Awaiting.{all_wait_after}
use Rattle.jlr_steps.specs.Cores.{Kept, kept_with}
use Rattle.jlr_steps.specs.Dispatch.{StepsState}
use Rattle.jlr_steps.specs.Steps.{IsStep}

-- what a core with this state is seen as
abbrev pub kept_of : {R : Type 0} → State R → Kept R
kept_of s = kept_with s.cleaner s.heap s.soft_age s.cycle_open

pub keeps_invariant :
    {R : Type 0} (old new : State R) (event : Event R) (answer : Option Answer) (chosen : Chosen) (out : Option R)
    → IsWellFormed (machine_of old) → AllWait (machine_of old) old.cleaner.waiting
    → StepsMachine (machine_of old) old.heap.marking (ask_of event) answer chosen (machine_of new)
    → StepsState old event answer chosen out new
    → IsWellFormed (machine_of new) × AllWait (machine_of new) new.cleaner.waiting
keeps_invariant old new event answer chosen out formed waits entry rest =
    let m = machine_of old in
    let n = machine_of new in
    let ask = ask_of event in
    let after = well_formed_after m n old.heap.marking ask answer chosen refl refl formed entry in (
      after,
      all_wait_after m n old.heap.marking old.cleaner new.cleaner ask answer chosen refl refl formed after refl refl
          rest.cells entry waits rest.waits,
    )

pub steps_core :
    {R : Type 0} (old new : State R) (event : Event R) (reply : Reply R) (chosen : Chosen)
    → IsWellFormed (machine_of old)
    → StepsMachine (machine_of old) old.heap.marking (ask_of event) (answer_in reply) chosen (machine_of new)
    → StepsState old event (answer_in reply) chosen (resource_of_reply reply) new
    → AnswersPiece (budget_of event) old.soft_age old.heap.clock (machine_of old) old.heap.marking old.heap.condemned
    reply new.heap.marking new.heap.condemned
    → IsStep (kept_of old) event reply chosen (kept_of new)
steps_core old new event reply chosen formed entry rest piece =
    record {
      entry =
          λ m stands.
          enters (machine_of old) (machine_of new) old.heap.marking new.heap.marking (ask_of event) (answer_in reply)
          chosen refl refl formed rest.cells entry rest.reached rest.begins m stands;
      cells = rest.cells;
      flow = rest.flow;
      moves = rest.moves;
      listed = refl;
      goes_out = rest.goes_out;
      memory = rest.memory;
      table_room = rest.table_room;
      begins = rest.begins;
      marking = piece;
      blackens = rest.blackens;
      collects = rest.collects;
      swept = rest.swept;
      policy = rest.policy;
      age = rest.age;
      clock = rest.clock;
    }
