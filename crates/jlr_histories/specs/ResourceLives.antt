-- How a resource lives through the entries of a run. It is named by its cleaning action: an action's number is given
-- once, a Rid again and again.
use Rattle.std.specs.Prelude.{◌≡◌, ℕ, zero, suc, ◌==◌, ◌⊎◌, Bool, true, false, cond, List, [], ◌∷◌, ◌++◌, Option, Some}
use Rattle.std.specs.Prelude.{None, option_and_then, option_map, option_to_list, find, nat_lt}
use Rattle.jlr_types.specs.declared.Work.{Work}
use Rattle.jlr_types.specs.declared.Work.TheVariants.{Note, Resource as WorkOn}
use Rattle.jlr_machine.specs.declared.object.Cleanable.{Cleanable as CleanableOf}
use Rattle.jlr_machine.specs.declared.object.Guard.{Guard as GuardOf}
use Rattle.jlr_machine.specs.declared.object.CleanState.TheVariants.{Armed}
use Rattle.jlr_machine.specs.declared.machine.Machine.{Machine}
use Rattle.jlr_machine.specs.declared.machine.Session.{Session}
use Rattle.jlr_machine.specs.declared.machine.Resource.{Resource}
use Rattle.jlr_machine.specs.declared.machine.Call.{Call}
use Rattle.jlr_machine.specs.declared.machine.Call.TheVariants.{Free, Opening as CallOpening, Out as CallOut}
use Rattle.jlr_machine.specs.declared.machine.Call.TheVariants.{Job as CallJob}
use Rattle.jlr_machine.specs.declared.machine.ResourceState.{ResourceState}
use Rattle.jlr_machine.specs.declared.machine.ResourceState.TheVariants.{Opening, Idle, Out, Closing}
use Rattle.jlr_machine.specs.declared.ask.Outcome.{Outcome}
use Rattle.jlr_machine.specs.declared.ask.Outcome.TheVariants.{Ok as OutcomeOk, Failed}
use Rattle.jlr_machine.specs.declared.ask.Ask.{Ask}
use Rattle.jlr_machine.specs.declared.ask.Ask.TheVariants.{Opened, CheckIn, Finish}
use Rattle.jlr_machine.specs.declared.ask.Answer.{Answer}
use Rattle.jlr_machine.specs.declared.ask.Answer.TheVariants.{Prepared, Out as OutAnswer, Job, Refused}
use Rattle.jlr_machine.specs.declared.entry.Entry.{Entry}
use Rattle.jlr_machine.specs.Objects.{at}
use Rattle.jlr_machine.specs.Lookups.{resource_at, job_of}
use Rattle.jlr_machine.specs.Run.{apply}
use Rattle.jlr_machine.specs.WellFormed.{IsSessionAt, IsGuardAt, IsCleanableAt}

-- ---- In a call

-- The resource with this Rid and action is what a mutator's call is on. The call's fence is on the guard of the
-- resource, whose cleanable is Armed and refers to it: so neither a collection nor the cleaner takes what the call is
-- on
pub record IsInCall (m : Machine) (rid action : ℕ) (call : Call) : Type 0 where
  pub mutator : ℕ
  pub session : Session
  pub slot : ℕ
  pub guard : GuardOf
  pub cleanable : CleanableOf
  pub joined : IsSessionAt m mutator session
  pub calls : session.call ≡ call
  pub fences : session.fence ≡ Some slot
  pub guarded : IsGuardAt m slot guard
  pub rid_is : guard.rid ≡ rid
  pub cleaned : IsCleanableAt m guard.cleanable cleanable
  pub action_is : cleanable.action ≡ action
  pub work_is : cleanable.work ≡ WorkOn rid
  pub armed : cleanable.state ≡ Armed
  pub refers : cleanable.referent ≡ Some slot

-- ---- Where a resource is in its life

-- the number of its action is not given yet; it is in this state; or it has ended, as is also said where the number
-- went to an action that finishes no resource
pub data Phase : Type 0 where
  NotYet : Phase
  In : ResourceState → Phase
  Over : Phase

abbrev pub phase_of : Option Resource → Bool → Phase
phase_of (Some r) given = In r.state
phase_of None true = Over
phase_of None false = NotYet

abbrev pub phase : Machine → ℕ → Phase
phase m action = phase_of (find (λ r. r.action == action) m.resources) (nat_lt action m.next_action)

-- ---- What is done to a resource

pub data Deed : Type 0 where
  BeginsOpen : Deed
  EndsOpen : Deed
  FailsOpen : Deed
  BeginsCall : Deed
  EndsCall : Deed
  BeginsFinish : Deed
  EndsFinish : Deed

-- the phase to which a deed leads, where it may be done
abbrev pub after_deed : Phase → Deed → Option Phase
after_deed NotYet BeginsOpen = Some (In Opening)
after_deed (In Opening) EndsOpen = Some (In Idle)
after_deed (In Opening) FailsOpen = Some Over
after_deed (In Idle) BeginsCall = Some (In Out)
after_deed (In Out) EndsCall = Some (In Idle)
after_deed (In Idle) BeginsFinish = Some (In Closing)
after_deed (In Closing) EndsFinish = Some Over
after_deed _ _ = None

-- the action of the resource with this Rid, and of that of a mutator's call
abbrev pub action_at : Machine → ℕ → Option ℕ
action_at m rid = option_map (λ r. r.action) (resource_at m rid)

abbrev pub rid_called : Call → Option ℕ
rid_called (CallOpening rid) = Some rid
rid_called (CallOut rid) = Some rid
rid_called Free = None
rid_called (CallJob action) = None

abbrev pub action_called : Machine → ℕ → Option ℕ
action_called m k = option_and_then (action_at m) (option_and_then (λ s. rid_called s.call) (at m.mutators k))

-- the action of a job that is to finish a resource
abbrev pub to_finish : ℕ → Work → Option ℕ
to_finish action (WorkOn rid) = Some action
to_finish action (Note n) = None

abbrev pub doing : Deed → Option ℕ → Option (ℕ × Deed)
doing deed action = option_map (λ a. (a, deed)) action

abbrev pub open_ended : Outcome → Deed
open_ended OutcomeOk = EndsOpen
open_ended (Failed fault) = FailsOpen

-- what an ask ends, if it is not refused, and of the resource of which action
abbrev pub ended_by : Machine → Ask → Option (ℕ × Deed)
ended_by m (Opened k outcome) = doing (open_ended outcome) (action_called m k)
ended_by m (CheckIn k outcome) = doing EndsCall (action_called m k)
ended_by m (Finish by action outcome) =
    doing EndsFinish (option_and_then (λ job. to_finish job.action job.work) (job_of m action))
ended_by m _ = None

-- What an entry does, and to the resource of which action. An open, a call and a finish begin with the answer that
-- hands them out, whatever the ask, and end with the ask that tells how they went
abbrev pub deed_of : Machine → Ask → Answer → Option (ℕ × Deed)
deed_of m ask (Refused by) = None
deed_of m ask (Prepared rid) = Some (m.next_action, BeginsOpen)
deed_of m ask (OutAnswer rid) = doing BeginsCall (action_at m rid)
deed_of m ask (Job action work) = doing BeginsFinish (to_finish action work)
deed_of m ask answer = ended_by m ask

-- to the resource of this action
abbrev pub done_to : ℕ → Option (ℕ × Deed) → Option Deed
done_to action None = None
done_to action (Some x) = cond (x.0 == action) (Some x.1) None

abbrev pub deed : Machine → Entry → ℕ → Option Deed
deed m e action = done_to action (deed_of m e.ask e.answer)

-- What an entry makes of a resource: it stays where it is, unless something is done to it. A number may go to an action
-- that finishes no resource
abbrev pub GoesOn : Phase → Option Deed → Phase → Type 0
GoesOn old None new = (new ≡ old) ⊎ ((old ≡ NotYet) × (new ≡ Over))
GoesOn old (Some d) new = after_deed old d ≡ Some new

-- ---- Whole lives

-- all that is done to it in a run, one after the other
abbrev pub deeds : Machine → List Entry → ℕ → List Deed
deeds m [] action = []
deeds m (e ∷ entries) action = option_to_list (deed m e action) ++ deeds (apply m e) entries action

-- reads and writes, one after the other
abbrev pub reads_and_writes : ℕ → List Deed
reads_and_writes zero = []
reads_and_writes (suc n) = BeginsCall ∷ EndsCall ∷ reads_and_writes n

-- one open, that fails; or one open, then reads and writes, then one finish
abbrev pub IsWholeLife : List Deed → Type 0
IsWholeLife all = (all ≡ BeginsOpen ∷ FailsOpen ∷ [])
    ⊎ ((n : ℕ) × (all ≡ BeginsOpen ∷ EndsOpen ∷ (reads_and_writes n ++ BeginsFinish ∷ EndsFinish ∷ [])))

-- a life so far is the beginning of a whole one
abbrev pub IsLife : List Deed → Type 0
IsLife seen = (rest : List Deed) × IsWholeLife (seen ++ rest)
