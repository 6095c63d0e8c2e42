-- Events and replies without their resources, and the resources that they carry.
use Rattle.std.specs.Prelude.{Option, Some, None, Result, Ok, Err}
use Rattle.jlr_types.specs.declared.Fault.{Fault}
use Rattle.jlr_machine.specs.declared.ask.Outcome.{Outcome}
use Rattle.jlr_machine.specs.declared.ask.Outcome.TheVariants as outcome
use Rattle.jlr_machine.specs.declared.ask.Ask.{Ask}
use Rattle.jlr_machine.specs.declared.ask.Ask.TheVariants as ask
use Rattle.jlr_machine.specs.declared.ask.Answer.{Answer}
use Rattle.jlr_machine.specs.declared.ask.Answer.TheVariants.{Handed}
use Rattle.jlr_machine.specs.declared.ask.Handed.TheVariants.{Nothing}
use Rattle.jlr_event.specs.declared.event.Event.{Event}
use Rattle.jlr_event.specs.declared.event.Event.TheVariants.{Ask as Asks, Opened, CheckIn, Mark}
use Rattle.jlr_event.specs.declared.event.Reply.{Reply}
use Rattle.jlr_event.specs.declared.event.Reply.TheVariants.{Answered, Marked}

-- how it ended, without what it gave
abbrev pub outcome_of : {A : Type 0} → Result A Fault → Outcome
outcome_of (Ok a) = outcome.Ok
outcome_of (Err fault) = outcome.Failed fault

abbrev pub resource_of : {R : Type 0} → Result R Fault → Option R
resource_of (Ok r) = Some r
resource_of (Err fault) = None

-- the ask of an event; none for a piece of marking
abbrev pub ask_of : {R : Type 0} → Event R → Option Ask
ask_of (Asks ask) = Some ask
ask_of (Opened k outcome) = Some (ask.Opened k (outcome_of outcome))
ask_of (CheckIn k outcome resource) = Some (ask.CheckIn k outcome)
ask_of (Mark budget) = None

-- the resource that an event hands in
abbrev pub resource_of_event : {R : Type 0} → Event R → Option R
resource_of_event (Opened k outcome) = resource_of outcome
resource_of_event (CheckIn k outcome resource) = Some resource
resource_of_event _ = None

-- the answer of a reply; none for a piece of marking
abbrev pub answer_in : {R : Type 0} → Reply R → Option Answer
answer_in (Answered answer resource) = Some answer
answer_in (Marked progress) = None

-- what stands for the answer of a piece of marking, which has none: it has no line
abbrev pub no_answer : Answer
no_answer = Handed Nothing

-- the answer of a reply, or what stands for it
abbrev pub said_by : {R : Type 0} → Reply R → Answer
said_by (Answered answer resource) = answer
said_by (Marked progress) = no_answer

-- the resource that a reply hands out
abbrev pub resource_of_reply : {R : Type 0} → Reply R → Option R
resource_of_reply (Answered answer resource) = resource
resource_of_reply (Marked progress) = None
