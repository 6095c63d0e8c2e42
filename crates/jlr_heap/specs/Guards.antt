-- Calls with which something goes in that a guard is to hold, or goes out that one held.
use Rattle.std.specs.Prelude.{◌≡◌, ℕ, Option, Some, None, Result, Ok, Err}
use Rattle.jlr_types.specs.declared.Fault.{Fault}
use Rattle.jlr_types.specs.declared.Refusal.{Refusal}
use Rattle.jlr_types.specs.declared.Work.{Work}
use Rattle.jlr_types.specs.declared.Work.TheVariants as work
use Rattle.jlr_machine.specs.declared.ask.Answer.{Answer}
use Rattle.jlr_machine.specs.declared.ask.Answer.TheVariants as answer
use Rattle.jlr_machine.specs.declared.ask.CallOutcome.{CallOutcome}
use Rattle.jlr_machine.specs.declared.ask.CallOutcome.TheVariants.{Failed, Wrote}
use Rattle.jlr_event.specs.declared.event.Event.{Event}
use Rattle.jlr_event.specs.declared.event.Reply.TheVariants.{Answered}
use Rattle.jlr_session.specs.Asks.{Asking}
use Rattle.jlr_heap.specs.declared.heap.Heap.{Heap}
use Rattle.jlr_heap.specs.declared.jobs.Declined.{Declined}
use Rattle.jlr_heap.specs.declared.jobs.Job.{Job}
use Rattle.jlr_heap.specs.declared.jobs.What.TheVariants.{Held, Note}
use Rattle.jlr_heap.specs.Entries.{IsReplied}

-- to the heap a call that the program made wrote nothing, or failed
abbrev pub outcome_of_call : Result (Unit {0}) Fault → CallOutcome
outcome_of_call (Ok done) = Wrote 0
outcome_of_call (Err fault) = Failed fault

module _ {R : Type 0} where
  abbrev pub TellsWorkOf : Job R → ℕ → Work → Option R → Type 0
  TellsWorkOf job action w (Some held) = job ≡ record { action = action; what = Held held }
  TellsWorkOf job action (work.Note n) None = job ≡ record { action = action; what = Note n }
  TellsWorkOf job action (work.Resource rid) None = ⊥

  -- a job with what goes out with it, or that there is none
  abbrev pub TellsTaken : Result (Option (Job R)) Refusal → Answer → Option R → Type 0
  TellsTaken (Ok (Some job)) (answer.Job action w) out = TellsWorkOf job action w out
  TellsTaken (Ok None) answer.AlreadyDone out = Unit {0}
  TellsTaken (Ok None) (answer.Handed what) out = Unit {0}
  TellsTaken (Err by) (answer.Refused reason) out = by ≡ reason
  TellsTaken _ _ _ = ⊥

  abbrev pub TellsLent : Result R Refusal → Answer → Option R → Type 0
  TellsLent (Ok lent) (answer.Out rid) (Some held) = lent ≡ held
  TellsLent (Err by) (answer.Refused reason) out = by ≡ reason
  TellsLent _ _ _ = ⊥

  -- what was handed in is held, or it goes back
  abbrev pub TellsGuarded : Result ℕ (Declined R) → Answer → Option R → Type 0
  TellsGuarded (Ok guard) (answer.Handle h) out = guard ≡ h
  TellsGuarded (Err declined) (answer.Refused reason) (Some held) = declined ≡ record { by = reason; held = held }
  TellsGuarded _ _ _ = ⊥

  abbrev pub TellsBack : Result (Unit {0}) (Declined R) → Answer → Option R → Type 0
  TellsBack (Err declined) (answer.Refused reason) (Some held) = declined ≡ record { by = reason; held = held }
  TellsBack (Err declined) _ _ = ⊥
  TellsBack (Ok done) (answer.Refused reason) out = ⊥
  TellsBack (Ok done) told out = Unit {0}

-- a call is an entry, and its result tells the answer and what went out
abbrev pub IsTold : {K R T : Type 0} → Asking K R → (T → Answer → Option R → Type 0) → Heap K → Event R → T → Heap K
    → Type 0
IsTold {K} {R} {T} asking tells old event result new = (answer : Answer) × (out : Option R)
    × IsReplied asking old event (Answered answer out) new × tells result answer out
