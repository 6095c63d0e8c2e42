-- Statements of the laws of whole runs. Each is the contract of a function of its own, with an empty body.
use Rattle.std.specs.Prelude.{◌≡◌, ◌≢◌, ℕ, ◌+◌, ◌≤◌, ◌⊎◌, false, IsTrue, cond, List, [], ◌∷◌, Some, None, is_some}
use Rattle.std.specs.Prelude.{unwrap_or, length}
use Rattle.jlr_types.specs.declared.Work.{Work}
use Rattle.jlr_types.specs.declared.Work.TheVariants.{Resource as WorkOn}
use Rattle.jlr_machine.specs.declared.object.Reference.{Reference as ReferenceOf}
use Rattle.jlr_machine.specs.declared.object.Cleanable.{Cleanable as CleanableOf}
use Rattle.jlr_machine.specs.declared.object.RefState.TheVariants.{Fresh, Queued}
use Rattle.jlr_machine.specs.declared.object.CleanState.TheVariants.{Armed, Pending as PendingClean, Lined}
use Rattle.jlr_machine.specs.declared.machine.Machine.{Machine}
use Rattle.jlr_machine.specs.declared.machine.Job.{Job as JobOf}
use Rattle.jlr_machine.specs.declared.machine.Call.TheVariants.{Opening as CallOpening, Out as CallOut}
use Rattle.jlr_machine.specs.declared.machine.ResourceState.{ResourceState}
use Rattle.jlr_machine.specs.declared.machine.ResourceState.TheVariants.{Opening, Idle, Out}
use Rattle.jlr_machine.specs.declared.ask.Outcome.{Outcome}
use Rattle.jlr_machine.specs.declared.ask.Ask.TheVariants.{Finish}
use Rattle.jlr_machine.specs.declared.ask.Answer.TheVariants.{Out as OutAnswer, Job}
use Rattle.jlr_machine.specs.declared.entry.Entry.{Entry}
use Rattle.jlr_machine.specs.Objects.{◌∈◌, is_unqueued}
use Rattle.jlr_machine.specs.Lookups.{job_of}
use Rattle.jlr_machine.specs.Refusals.{asker}
use Rattle.jlr_machine.specs.Run.{IsLegal, Run, apply, empty_from}
use Rattle.jlr_machine.specs.WellFormed.{IsWellFormed, IsReferenceAt, IsCleanableAt, HasResource}
use Rattle.jlr_histories.specs.Lives.{LivesOn, IsReferenceOn, IsReferenceLater, IsCleanableOn, IsCleanableLater}
use Rattle.jlr_histories.specs.Lives.{enqueueings, slot_cleared, take_ups, all_take_ups, records, outcomes, running}
use Rattle.jlr_histories.specs.Lives.{IsRecorded}
use Rattle.jlr_histories.specs.ResourceLives.{IsInCall, GoesOn, IsLife, phase, deed, deeds}
use Rattle.jlr_histories.specs.ResourceLives.Phase.{In, Over}

-- ---- References and cleanables only go forward

-- one entry makes of a reference what it may
abbrev pub ReferenceGoesForward : Type 0
ReferenceGoesForward =
    (m : Machine) (e : Entry) (s : ℕ) (r : ReferenceOf) → IsWellFormed m → IsLegal m e → LivesOn m (e ∷ []) s
    → IsReferenceAt m s r → (t : ReferenceOf) × IsReferenceAt (apply m e) s t × IsReferenceOn r t

abbrev pub CleanableGoesForward : Type 0
CleanableGoesForward =
    (m : Machine) (e : Entry) (s : ℕ) (c : CleanableOf) → IsWellFormed m → IsLegal m e → LivesOn m (e ∷ []) s
    → IsCleanableAt m s c → (d : CleanableOf) × IsCleanableAt (apply m e) s d × IsCleanableOn c d

-- so does a life, however long
abbrev pub ReferenceLifeGoesForward : Type 0
ReferenceLifeGoesForward =
    (m n : Machine) (entries : List Entry) (s : ℕ) (r : ReferenceOf) → IsWellFormed m → Run m entries n
    → LivesOn m entries s → IsReferenceAt m s r → (t : ReferenceOf) × IsReferenceAt n s t × IsReferenceLater r t

abbrev pub CleanableLifeGoesForward : Type 0
CleanableLifeGoesForward =
    (m n : Machine) (entries : List Entry) (s : ℕ) (c : CleanableOf) → IsWellFormed m → Run m entries n
    → LivesOn m entries s → IsCleanableAt m s c → (d : CleanableOf) × IsCleanableAt n s d × IsCleanableLater c d

-- ---- Enqueueing

abbrev pub EnqueuedAtMostOnce : Type 0
EnqueuedAtMostOnce = (m n : Machine) (entries : List Entry) (s : ℕ) → IsWellFormed m → Run m entries n
    → LivesOn m entries s → enqueueings m entries s ≤ 1

-- one that was Fresh or Pending has been enqueued just once where it is Queued or Removed, and else never
abbrev pub EnqueuedOnItsWay : Type 0
EnqueuedOnItsWay =
    (m n : Machine) (entries : List Entry) (s : ℕ) (r t : ReferenceOf) → IsWellFormed m → Run m entries n
    → LivesOn m entries s → IsReferenceAt m s r → IsReferenceAt n s t
    → IsTrue (is_unqueued r.state) → enqueueings m entries s ≡ cond (is_unqueued t.state) 0 1

-- a reference that is enqueued has no referent any more
abbrev pub EnqueuedIsCleared : Type 0
EnqueuedIsCleared = (m : Machine) (e : Entry) (s : ℕ) (r : ReferenceOf) → IsWellFormed m → IsLegal m e
    → IsReferenceAt (apply m e) s r → r.state ≡ Queued → r.referent ≡ None

-- the life of a reference begins with a Fresh one, and that of a cleanable with an Armed one
abbrev pub NewIsFresh : Type 0
NewIsFresh = (m : Machine) (e : Entry) (s : ℕ) (r : ReferenceOf) → IsWellFormed m → IsLegal m e → s ∈ e.choice.fresh
    → IsReferenceAt (apply m e) s r → r.state ≡ Fresh

abbrev pub NewIsArmed : Type 0
NewIsArmed = (m : Machine) (e : Entry) (s : ℕ) (c : CleanableOf) → IsWellFormed m → IsLegal m e → s ∈ e.choice.fresh
    → IsCleanableAt (apply m e) s c → c.state ≡ Armed

-- ---- Clearing

-- a reference loses its referent only by a collection, or by the program's `clear` or `enqueue` of it
abbrev pub OnlyTheyClear : Type 0
OnlyTheyClear =
    (m : Machine) (e : Entry) (s : ℕ) (r t : ReferenceOf) → IsWellFormed m → IsLegal m e → LivesOn m (e ∷ []) s
    → IsReferenceAt m s r → IsReferenceAt (apply m e) s t
    → t.referent ≢ r.referent → IsTrue (is_some e.choice.collected) ⊎ (slot_cleared m e.ask ≡ Some s)

-- ---- Take-ups

abbrev pub TakenUpAtMostOnce : Type 0
TakenUpAtMostOnce = (m n : Machine) (entries : List Entry) (action : ℕ) → IsWellFormed m → Run m entries n
    → take_ups action entries ≤ 1

-- the machine counts them all
abbrev pub TakeUpsAreCounted : Type 0
TakeUpsAreCounted = (m n : Machine) (entries : List Entry) → Run m entries n → n.taken ≡ m.taken + all_take_ups entries

-- a take-up begins the job that it hands out, the asker's or else the cleaner's; none of that action ran
abbrev pub TakeUpBeginsItsJob : Type 0
TakeUpBeginsItsJob =
    (m : Machine) (e : Entry) (action : ℕ) (work : Work) → IsWellFormed m → IsLegal m e → e.answer ≡ Job action work
    → (job_of m action ≡ None) × (job_of (apply m e) action
    ≡ Some (record { action = action; work = work; by = unwrap_or (asker e.ask) 255 }))

-- it runs, of the same taker and with the same work, until its outcome is recorded
abbrev pub JobRunsUntilItsOutcome : Type 0
JobRunsUntilItsOutcome =
    (m : Machine) (e : Entry) (action : ℕ) (job : JobOf) → IsWellFormed m → IsLegal m e → job_of m action ≡ Some job
    → records action e ≡ false → job_of (apply m e) action ≡ Some job

-- so it does in a run, however long
abbrev pub JobRunsOnUntilItsOutcome : Type 0
JobRunsOnUntilItsOutcome =
    (m n : Machine) (entries : List Entry) (action : ℕ) (job : JobOf) → IsWellFormed m → Run m entries n
    → job_of m action ≡ Some job → outcomes action entries ≡ 0 → job_of n action ≡ Some job

-- its taker tells the outcome, which is recorded, and the job runs no more
abbrev pub FinishRecordsTheOutcome : Type 0
FinishRecordsTheOutcome =
    (m : Machine) (e : Entry) (by action : ℕ) (outcome : Outcome) → IsWellFormed m → IsLegal m e
    → e.ask ≡ Finish by action outcome → IsTrue (records action e)
    → (job : JobOf) × (job_of m action ≡ Some job) × (job.by ≡ by) × (job_of (apply m e) action ≡ None)
    × IsRecorded m (apply m e) action job.work outcome

-- what its taker tells is never refused
abbrev pub TakersFinishIsRecorded : Type 0
TakersFinishIsRecorded =
    (m : Machine) (e : Entry) (action : ℕ) (job : JobOf) (outcome : Outcome) → IsWellFormed m → IsLegal m e
    → job_of m action ≡ Some job → e.ask ≡ Finish job.by action outcome → IsTrue (records action e)

-- nothing else is recorded
abbrev pub OnlyOutcomesAreRecorded : Type 0
OnlyOutcomesAreRecorded =
    (m : Machine) (e : Entry) → IsWellFormed m → IsLegal m e → ((action : ℕ) → records action e ≡ false)
    → ((apply m e).ok ≡ m.ok) × ((apply m e).failed ≡ m.failed) × ((apply m e).notes ≡ m.notes)
    × ((apply m e).faults ≡ m.faults)

-- of an action that ran or was taken up one outcome was recorded, or it runs
abbrev pub OutcomesAreRecorded : Type 0
OutcomesAreRecorded = (m n : Machine) (entries : List Entry) (action : ℕ) → IsWellFormed m → Run m entries n
    → running m action + take_ups action entries ≡ outcomes action entries + running n action

-- a resource whose cleanable waits for the handler or the cleaner is in no call
abbrev pub WaitingResourcesAreIdle : Type 0
WaitingResourcesAreIdle = (m : Machine) (s rid : ℕ) (c : CleanableOf) → IsWellFormed m → IsCleanableAt m s c
    → c.work ≡ WorkOn rid → (c.state ≡ PendingClean) ⊎ (c.state ≡ Lined) → HasResource m rid c.action Idle

-- ---- The same from an empty machine on

-- a run leads from an empty machine of some limits to m, and another from there to n
pub record IsRunFromEmpty (m : Machine) (entries : List Entry) (n : Machine) : Type 0 where
  pub cells : ℕ
  pub sessions : ℕ
  pub resources : ℕ
  pub next_action : ℕ
  pub before : List Entry
  pub started : 1 ≤ next_action
  pub few_cells : cells ≤ 65536
  pub few_sessions : sessions ≤ 64
  pub past : Run (empty_from cells sessions resources next_action) before m
  pub run : Run m entries n

abbrev pub ReferencesGoForwardInHistories : Type 0
ReferencesGoForwardInHistories =
    (m n : Machine) (entries : List Entry) (s : ℕ) (r : ReferenceOf) → IsRunFromEmpty m entries n → LivesOn m entries s
    → IsReferenceAt m s r → (t : ReferenceOf) × IsReferenceAt n s t × IsReferenceLater r t

abbrev pub CleanablesGoForwardInHistories : Type 0
CleanablesGoForwardInHistories =
    (m n : Machine) (entries : List Entry) (s : ℕ) (c : CleanableOf) → IsRunFromEmpty m entries n → LivesOn m entries s
    → IsCleanableAt m s c → (d : CleanableOf) × IsCleanableAt n s d × IsCleanableLater c d

abbrev pub EnqueuedAtMostOnceInHistories : Type 0
EnqueuedAtMostOnceInHistories = (m n : Machine) (entries : List Entry) (s : ℕ) → IsRunFromEmpty m entries n
    → LivesOn m entries s → enqueueings m entries s ≤ 1

-- in a run from an empty machine each action is taken up at most once
abbrev pub TakenUpAtMostOnceInRuns : Type 0
TakenUpAtMostOnceInRuns =
    (cells sessions resources next_action : ℕ) (n : Machine) (entries : List Entry) (action : ℕ) → 1 ≤ next_action
    → cells ≤ 65536 → sessions ≤ 64
    → Run (empty_from cells sessions resources next_action) entries n → take_ups action entries ≤ 1

-- and all that were taken up ended well, failed, or run
abbrev pub TakeUpsEndOrRun : Type 0
TakeUpsEndOrRun =
    (cells sessions resources next_action : ℕ) (n : Machine) (entries : List Entry) → 1 ≤ next_action → cells ≤ 65536
    → sessions ≤ 64
    → Run (empty_from cells sessions resources next_action) entries n
    → all_take_ups entries ≡ n.ok + n.failed + length n.jobs

-- each take-up of an action has one outcome, or its job runs, and no action has two
abbrev pub TakeUpHasOneOutcomeOrRunsInRuns : Type 0
TakeUpHasOneOutcomeOrRunsInRuns =
    (cells sessions resources next_action : ℕ) (n : Machine) (entries : List Entry) (action : ℕ) → 1 ≤ next_action
    → cells ≤ 65536 → sessions ≤ 64
    → Run (empty_from cells sessions resources next_action) entries n
    → (take_ups action entries ≡ outcomes action entries + running n action) × (outcomes action entries ≤ 1)

-- ---- Resources

-- a resource that is opening or out is in a call
abbrev pub ResourcesInCallsAreFenced : Type 0
ResourcesInCallsAreFenced =
    (m : Machine) (rid action : ℕ) → IsWellFormed m
    → (HasResource m rid action Opening → IsInCall m rid action (CallOpening rid))
    × (HasResource m rid action Out → IsInCall m rid action (CallOut rid))

-- an action finishes at most one resource
abbrev pub OneResourceAnAction : Type 0
OneResourceAnAction =
    (m : Machine) (r q action : ℕ) (s t : ResourceState) → IsWellFormed m → HasResource m r action s
    → HasResource m q action t → (r ≡ q) × (s ≡ t)

-- and the phase under the action is that resource's state
abbrev pub PhaseIsItsState : Type 0
PhaseIsItsState = (m : Machine) (rid action : ℕ) (s : ResourceState) → IsWellFormed m → HasResource m rid action s
    → phase m action ≡ In s

-- from the open to its end it has one Rid
abbrev pub ResourceKeepsItsRid : Type 0
ResourceKeepsItsRid =
    (m n : Machine) (entries : List Entry) (action r q : ℕ) (s t : ResourceState) → IsWellFormed m → Run m entries n
    → HasResource m r action s → HasResource n q action t → r ≡ q

-- whoever asks, a resource is handed out only where it is idle: to a call, and with a job to finish it
abbrev pub CallsFindTheirResourcesIdle : Type 0
CallsFindTheirResourcesIdle = (m : Machine) (e : Entry) (rid : ℕ) → IsWellFormed m → IsLegal m e
    → e.answer ≡ OutAnswer rid → (action : ℕ) × HasResource m rid action Idle

abbrev pub JobsFindTheirResourcesIdle : Type 0
JobsFindTheirResourcesIdle = (m : Machine) (e : Entry) (action rid : ℕ) → IsWellFormed m → IsLegal m e
    → e.answer ≡ Job action (WorkOn rid) → HasResource m rid action Idle

-- one entry moves a resource by what it does to it, and else not
abbrev pub ResourceGoesOn : Type 0
ResourceGoesOn = (m : Machine) (e : Entry) (action : ℕ) → IsWellFormed m → IsLegal m e
    → GoesOn (phase m action) (deed m e action) (phase (apply m e) action)

-- a resource that has ended never comes back under its action, and nothing is done to it
abbrev pub OverIsOver : Type 0
OverIsOver = (m n : Machine) (entries : List Entry) (action : ℕ) → IsWellFormed m → Run m entries n
    → phase m action ≡ Over → (phase n action ≡ Over) × (deeds m entries action ≡ [])

-- the resource of an action whose number is not given yet sees one open, then reads and writes, then at most one
-- finish, then nothing
abbrev pub ResourceLivesInOrder : Type 0
ResourceLivesInOrder = (m n : Machine) (entries : List Entry) (action : ℕ) → IsWellFormed m → Run m entries n
    → m.next_action ≤ action → IsLife (deeds m entries action)

-- in a run from an empty machine each resource does
abbrev pub ResourceLivesInOrderInRuns : Type 0
ResourceLivesInOrderInRuns =
    (cells sessions resources next_action : ℕ) (n : Machine) (entries : List Entry) (action : ℕ) → 1 ≤ next_action
    → cells ≤ 65536 → sessions ≤ 64
    → Run (empty_from cells sessions resources next_action) entries n
    → IsLife (deeds (empty_from cells sessions resources next_action) entries action)
