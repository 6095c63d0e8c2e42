-- What follows each reply, over whatever answers the asks: the handler hands over until nothing is pending, and then
-- the cleaner works until its line is empty. Neither asks where there is nothing to do.
use Rattle.std.specs.Prelude.{◌≡◌, ◌≢◌, ◌⊎◌, ℕ, List, [], ◌∷◌, Some, Ok}
use Rattle.jlr_machine.specs.declared.ask.Handed.{Handed as HandedOver}
use Rattle.jlr_machine.specs.declared.ask.Handed.TheVariants.{Nothing}
use Rattle.jlr_machine.specs.declared.ask.Answer.TheVariants.{Handed}
use Rattle.jlr_cleaner.specs.declared.job.Job.{Job}
use Rattle.jlr_event.specs.declared.event.Event.{Event}
use Rattle.jlr_machine.specs.declared.ask.Ask.TheVariants.{HandOver, TakeUp}
use Rattle.jlr_event.specs.declared.event.Event.TheVariants.{Ask as Asks}
use Rattle.jlr_event.specs.declared.event.Reply.{Reply}
use Rattle.jlr_event.specs.Events.{answer_in}
use Rattle.jlr_device.specs.Handling.{Handling}
use Rattle.jlr_session.specs.Asks.{job_by, TellsFinished}
use Rattle.jlr_book.specs.Rules.{was_refused}

-- What an ask of the handler's does and one of the cleaner's, and the lists that they work off.
pub record Helpers (H R : Type 0) : Type 1 where
  pub hands : H → Event R → Reply R → H → Type 0
  pub cleans : H → Event R → Reply R → H → Type 0
  pub pending : H → List ℕ
  pub line : H → List ℕ

-- ---- What the helpers are answered

-- something was taken off the pending list
abbrev pub TookOne : {R : Type 0} → Reply R → Type 0
TookOne reply = (handed : HandedOver) × (handed ≢ Nothing) × (answer_in reply ≡ Some (Handed handed))

-- no cleanable of the line was Lined, and the line was let go
abbrev pub FoundNothing : {R : Type 0} → Reply R → Type 0
FoundNothing reply = answer_in reply ≡ Some (Handed Nothing)

-- ---- Turns

-- one turn after the other; these are the states that they left
abbrev pub Turns : {H : Type 0} → (H → H → Type 0) → List H → H → H → Type 0
Turns turn [] old new = new ≡ old
Turns turn (next ∷ later) old new = turn old next × Turns turn later next new

-- turns until nothing is left to do
pub record TurnsToTheEnd {H : Type 0} (turn : H → H → Type 0) (left : H → List ℕ) (old new : H) : Type 0 where
  pub states : List H
  pub turns : Turns turn states old new
  pub nothing_left : left new ≡ []

-- turns, and then an ask that was refused, while something was left to do
pub record TurnsUntilRefused {H R : Type 0} (asks : H → Event R → Reply R → H → Type 0) (turn : H → H → Type 0)
    (event : Event R) (left : H → List ℕ) (old new : H) : Type 0 where
  pub states : List H
  pub before : H
  pub last : Reply R
  pub turns : Turns turn states old before
  pub something_left : left before ≢ []
  pub asked : asks before event last new
  pub refused : was_refused last

module _ {H R : Type 0} (helpers : Helpers H R) where
  -- a turn of the handler, where something is pending: a step took something off the pending list
  abbrev pub HandsOver : H → H → Type 0
  HandsOver old new = (helpers.pending old ≢ []) × (reply : Reply R) × helpers.hands old (Asks HandOver) reply new
      × TookOne reply

  abbrev pub HandsAllOver : H → H → Type 0
  HandsAllOver = TurnsToTheEnd HandsOver helpers.pending

  -- or the handler is refused
  abbrev pub CannotHandOver : H → H → Type 0
  CannotHandOver = TurnsUntilRefused helpers.hands HandsOver (Asks HandOver) helpers.pending

module _ {H R : Type 0} (helpers : Helpers H R) (resource : Handling R) where
  -- the cleaner, which is 255, took a job up, its work was done, and its outcome told
  abbrev pub DoesJob : H → H → Type 0
  DoesJob old new = (reply : Reply R) × (job : Job R) × (between : H) × (finish : Event R) × (told : Reply R)
      × helpers.cleans old (Asks TakeUp) reply between × (job_by reply ≡ Ok job) × TellsFinished resource 255 job finish
      × helpers.cleans between finish told new

  -- a turn of the cleaner, where its line is not empty: a job, or none of the line was Lined
  abbrev pub Works : H → H → Type 0
  Works old new = (helpers.line old ≢ []) × (DoesJob old new
      ⊎ ((reply : Reply R) × helpers.cleans old (Asks TakeUp) reply new × FoundNothing reply))

  -- until the line is empty, or a take-up is refused
  abbrev pub CleansUp : H → H → Type 0
  CleansUp old new = TurnsToTheEnd Works helpers.line old new
      ⊎ TurnsUntilRefused helpers.cleans Works (Asks TakeUp) helpers.line old new

  -- the handler's turns until nothing is pending, and then the cleaner's; or until the handler is refused
  abbrev pub Settles : H → H → Type 0
  Settles old new = ((between : H) × HandsAllOver helpers old between × CleansUp between new)
      ⊎ CannotHandOver helpers old new
