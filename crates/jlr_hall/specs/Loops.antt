-- What a loop asks, and where.
use Rattle.std.specs.Prelude.{◌≡◌, ◌⊎◌, ℕ, List, [], ◌∷◌, Option, Some, None, Result, Ok, Err}
use Rattle.jlr_types.specs.declared.limits.Limits.{Limits}
use Rattle.jlr_machine.specs.declared.ask.Answer.{Answer}
use Rattle.jlr_cleaner.specs.declared.job.Job.{Job}
use Rattle.jlr_device.specs.Handling.{Handling}
use Rattle.jlr_event.specs.declared.event.Event.{Event}
use Rattle.jlr_machine.specs.declared.ask.Ask.TheVariants.{Begin, Collect, HandOver, TakeUp}
use Rattle.jlr_event.specs.declared.event.Event.TheVariants.{Ask as Asks, Mark}
use Rattle.jlr_event.specs.declared.event.Reply.{Reply}
use Rattle.jlr_session.specs.Asks.{TellsFinished, job_by}
use Rattle.jlr_log.specs.Seeing.{Seen}
use Rattle.jlr_hall.specs.declared.step.Step.{Step}
use Rattle.jlr_hall.specs.Asking.{Asked, HasItsResource, found}
use Rattle.jlr_hall.specs.Due.{HasLine, HasPending, IsDueAt}

-- ---- Asks, one after the other

module _ {R : Type 0} (limits : Limits) where
  -- These events were asked by one seat and answered so, and nothing else; each was one that may be asked in the
  -- history that it found.
  abbrev pub AsksInTurn : (List (Step R) → Event R → Type 0) → Seen (Step R) → List (Event R × Reply R) → Seen (Step R)
      → Type 0
  AsksInTurn may p [] q = q ≡ p
  AsksInTurn may p (x ∷ asks) q =
      (mid : Seen (Step R)) × (asked : Asked limits p x.0 x.1 mid) × may (found limits p x.0 x.1 mid asked) x.0
      × AsksInTurn may mid asks q

  -- nothing but such events were asked
  abbrev pub AsksOnly : (List (Step R) → Event R → Type 0) → Seen (Step R) → Seen (Step R) → Type 0
  AsksOnly may old new = (asks : List (Event R × Reply R)) × AsksInTurn may old asks new

-- ---- What a loop may ask in a history

module _ {R : Type 0} (limits : Limits) where
  -- the marker with this budget: a cycle begins only where one is due
  abbrev pub IsMarkers : ℕ → List (Step R) → Event R → Type 0
  IsMarkers budget log event = ((event ≡ (Asks Begin)) × IsDueAt limits log) ⊎ (event ≡ (Asks Collect))
      ⊎ (event ≡ Mark budget)

  -- the handler: something is pending
  abbrev pub IsHandlers : List (Step R) → Event R → Type 0
  IsHandlers log event = (event ≡ (Asks HandOver)) × HasPending limits log

  -- the cleaner: something stands in its line where it takes up
  abbrev pub IsCleaners : List (Step R) → Event R → Type 0
  IsCleaners log event = event ≡ (Asks TakeUp) → HasLine limits log

-- ---- The cleaner, which is 255

abbrev pub job_handed : {R : Type 0} → Result (Job R) Answer → Option (Job R)
job_handed (Ok job) = Some job
job_handed (Err answer) = None

module _ {R : Type 0} (handling : Handling R) where
  -- With this job running, then with that one: while none runs it takes up, and a job that runs is ended before the
  -- next take-up, by the event that tells what its resource answered to its finish, in which the count of failures rose
  -- where it is a fault; ok for a note. A job comes with a resource just where its work is on one.
  abbrev pub Cleans : Option (Job R) → List (Event R × Reply R) → Option (Job R) → Type 0
  Cleans running [] last = last ≡ running
  Cleans None (x ∷ asks) last = (x.0 ≡ (Asks TakeUp)) × HasItsResource x.1 × Cleans (job_handed (job_by x.1)) asks last
  Cleans (Some job) (x ∷ asks) last = TellsFinished handling 255 job x.0 × Cleans None asks last

  -- nothing else was asked, and with that job running at the end
  abbrev pub CleansIn : Limits → Seen (Step R) → Option (Job R) → Seen (Step R) → Type 0
  CleansIn limits old last new =
      (asks : List (Event R × Reply R)) × AsksInTurn limits (IsCleaners limits) old asks new × Cleans None asks last
