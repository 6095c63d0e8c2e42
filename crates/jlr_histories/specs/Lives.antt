-- How an object lives through the entries of a run: what may become of it, and what is counted.
use Rattle.std.specs.Prelude.{◌≡◌, ℕ, ◌+◌, ◌≤◌, ◌⊎◌, Bool, true, false, cond, not, ◌&&◌, IsTrue, List, [], ◌∷◌, ◌++◌}
use Rattle.std.specs.Prelude.{Option, None, is_some, count_by, nat_eq}
use Rattle.jlr_types.specs.declared.Work.{Work}
use Rattle.jlr_machine.specs.declared.object.Reference.{Reference as ReferenceOf}
use Rattle.jlr_machine.specs.declared.object.Cleanable.{Cleanable as CleanableOf}
use Rattle.jlr_machine.specs.declared.object.RefState.{RefState}
use Rattle.jlr_machine.specs.declared.object.RefState.TheVariants.{Fresh, Pending, Queued, Removed}
use Rattle.jlr_machine.specs.declared.object.CleanState.{CleanState}
use Rattle.jlr_machine.specs.declared.object.CleanState.TheVariants.{Armed, Pending as PendingClean, Lined, Spent}
use Rattle.jlr_machine.specs.declared.machine.Machine.{Machine}
use Rattle.jlr_machine.specs.declared.ask.Outcome.{Outcome}
use Rattle.jlr_machine.specs.declared.ask.Outcome.TheVariants.{Ok as OutcomeOk, Failed}
use Rattle.jlr_machine.specs.declared.ask.Ask.{Ask}
use Rattle.jlr_machine.specs.declared.ask.Ask.TheVariants.{Clear, Enqueue, Finish}
use Rattle.jlr_machine.specs.declared.ask.Answer.{Answer}
use Rattle.jlr_machine.specs.declared.ask.Answer.TheVariants.{Job}
use Rattle.jlr_machine.specs.declared.entry.Entry.{Entry}
use Rattle.jlr_machine.specs.Objects.{◌∋◌, some_and, is_queued}
use Rattle.jlr_machine.specs.Lookups.{slot_named, job_of, last_256}
use Rattle.jlr_machine.specs.Calls.{noted}
use Rattle.jlr_machine.specs.Run.{apply}
use Rattle.jlr_machine.specs.WellFormed.{IsObjectAt, state_at}
use Rattle.jlr_machine.specs.Refusals.{is_refusal}

-- ---- Lives

-- the object at s lives through these entries: it is there before and after each, and none makes another in its place
abbrev pub LivesOn : Machine → List Entry → ℕ → Type 0
LivesOn m [] s = IsObjectAt m s
LivesOn m (e ∷ entries) s = IsObjectAt m s × IsTrue (not (e.choice.fresh ∋ s)) × LivesOn (apply m e) entries s

-- a slot that is referred to stays the same, or there is none any more
abbrev pub StaysOrGoes : Option ℕ → Option ℕ → Type 0
StaysOrGoes old new = (new ≡ old) ⊎ (new ≡ None)

-- ---- References

-- the states in the order in which a reference comes to them
abbrev pub stage : RefState → ℕ
stage Fresh = 0
stage Pending = 1
stage Queued = 2
stage Removed = 3

-- an entry keeps the state or leads to the next; the program may enqueue a Fresh reference, which then never is Pending
abbrev pub may_become : RefState → RefState → Bool
may_become Fresh Fresh = true
may_become Fresh Pending = true
may_become Fresh Queued = true
may_become Pending Pending = true
may_become Pending Queued = true
may_become Queued Queued = true
may_become Queued Removed = true
may_become Removed Removed = true
may_become _ _ = false

-- what one entry may make of a reference
pub record IsReferenceOn (old new : ReferenceOf) : Type 0 where
  pub kind : new.kind ≡ old.kind
  pub referent : StaysOrGoes old.referent new.referent
  pub queue : StaysOrGoes old.queue new.queue
  pub state : IsTrue (may_become old.state new.state)

-- and what the entries of a life may make of it
pub record IsReferenceLater (old new : ReferenceOf) : Type 0 where
  pub kind : new.kind ≡ old.kind
  pub referent : StaysOrGoes old.referent new.referent
  pub queue : StaysOrGoes old.queue new.queue
  pub state : stage old.state ≤ stage new.state

-- ---- Cleanables

-- the states in the order in which a cleanable comes to them
abbrev pub clean_stage : CleanState → ℕ
clean_stage Armed = 0
clean_stage PendingClean = 1
clean_stage Lined = 2
clean_stage Spent = 3

-- an entry keeps the state or leads to the next; from each a cleanable may become Spent
abbrev pub may_come_after : CleanState → CleanState → Bool
may_come_after Armed Armed = true
may_come_after Armed PendingClean = true
may_come_after PendingClean PendingClean = true
may_come_after PendingClean Lined = true
may_come_after Lined Lined = true
may_come_after _ Spent = true
may_come_after _ _ = false

-- what one entry may make of a cleanable
pub record IsCleanableOn (old new : CleanableOf) : Type 0 where
  pub action : new.action ≡ old.action
  pub work : new.work ≡ old.work
  pub referent : StaysOrGoes old.referent new.referent
  pub state : IsTrue (may_come_after old.state new.state)

-- and what the entries of a life may make of it
pub record IsCleanableLater (old new : CleanableOf) : Type 0 where
  pub action : new.action ≡ old.action
  pub work : new.work ≡ old.work
  pub referent : StaysOrGoes old.referent new.referent
  pub state : clean_stage old.state ≤ clean_stage new.state

-- ---- Enqueueings

abbrev pub is_queued_at : Machine → ℕ → Bool
is_queued_at m s = some_and is_queued (state_at m s)

-- how often the reference at s is enqueued: the entries before which it is not Queued and after which it is
abbrev pub enqueueings : Machine → List Entry → ℕ → ℕ
enqueueings m [] s = 0
enqueueings m (e ∷ entries) s =
    cond (not (is_queued_at m s) && is_queued_at (apply m e) s) 1 0 + enqueueings (apply m e) entries s

-- ---- Clearing

-- the slot of the reference that the program clears by an ask: `clear` and `enqueue` alone do so
abbrev pub slot_cleared : Machine → Ask → Option ℕ
slot_cleared m (Clear k r) = slot_named m k r
slot_cleared m (Enqueue k r) = slot_named m k r
slot_cleared m _ = None

-- ---- Take-ups

-- an answer that hands out a job; and one that hands out the job of this action
abbrev pub is_job : Answer → Bool
is_job (Job action work) = true
is_job _ = false

abbrev pub is_job_for : ℕ → Answer → Bool
is_job_for action (Job a work) = nat_eq a action
is_job_for action _ = false

-- how many entries take up an action, and how many this one
abbrev pub all_take_ups : List Entry → ℕ
all_take_ups entries = count_by (λ e. is_job e.answer) entries

abbrev pub take_ups : ℕ → List Entry → ℕ
take_ups action entries = count_by (λ e. is_job_for action e.answer) entries

-- ---- Outcomes

-- an ask that tells the outcome of this action, and an entry that records it: one that tells it and is not refused
abbrev pub tells : ℕ → Ask → Bool
tells action (Finish by a outcome) = nat_eq a action
tells action _ = false

abbrev pub records : ℕ → Entry → Bool
records action e = tells action e.ask && not (is_refusal e.answer)

-- how many entries record an outcome of this action
abbrev pub outcomes : ℕ → List Entry → ℕ
outcomes action entries = count_by (λ e. records action e) entries

-- 1 where a job of this action runs, else 0
abbrev pub running : Machine → ℕ → ℕ
running m action = cond (is_some (job_of m action)) 1 0

-- what recording the outcome of this action and work makes of m: one more went well, and its note is kept; or one more
-- failed, and its fault is kept
abbrev pub IsRecorded : Machine → Machine → ℕ → Work → Outcome → Type 0
IsRecorded m n action work OutcomeOk = (n.ok ≡ m.ok + 1) × (n.failed ≡ m.failed) × (n.notes ≡ noted m.notes work)
    × (n.faults ≡ m.faults)
IsRecorded m n action work (Failed fault) = (n.ok ≡ m.ok) × (n.failed ≡ m.failed + 1) × (n.notes ≡ m.notes)
    × (n.faults ≡ last_256 (m.faults ++ record { action = action; fault = fault } ∷ []))
