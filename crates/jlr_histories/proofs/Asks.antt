-- What was seen plays no part in what asks are refused with and answer, nor in what they leave.
use Rattle.std.proofs.Common.{replicate, ◌≡◌, ℕ, ◌+◌, ◌==◌, Bool, true, false, cond, List, [], ◌∷◌, ◌++◌, ◌⊎◌, inl, inr, refl, ◌∙◌, ap}
use Rattle.std.proofs.Common.{Option, Some, None, option_and_then, map, slice_get}
use Rattle.jlr_types.specs.declared.FieldValue.TheVariants.{Int as IntValue, Ref as RefValue}
use Rattle.jlr_machine.specs.declared.object.Object.{Object}
use Rattle.jlr_machine.specs.declared.object.Contents.TheVariants.{Typed, Elements}
use Rattle.jlr_machine.specs.declared.object.Object.TheVariants.{Plain, Reference, Queue, Cleaner}
use Rattle.jlr_machine.specs.declared.object.Cleanable.{Cleanable as CleanableOf}
use Rattle.jlr_machine.specs.declared.object.Guard.{Guard as GuardOf}
use Rattle.jlr_machine.specs.declared.object.RefState.TheVariants.{Fresh}
use Rattle.jlr_machine.specs.declared.machine.Machine.{Machine}
use Rattle.jlr_machine.specs.declared.machine.Job.{Job as JobOf}
use Rattle.jlr_machine.specs.declared.machine.Call.TheVariants.{Free, Job as CallJob}
use Rattle.jlr_machine.specs.declared.machine.ResourceState.{ResourceState}
use Rattle.jlr_machine.specs.declared.machine.ResourceState.TheVariants.{Idle, Closing}
use Rattle.jlr_machine.specs.declared.ask.Ask.{Ask}
use Rattle.jlr_machine.specs.declared.ask.Answer.{Answer}
use Rattle.jlr_machine.specs.declared.ask.Outcome.{Outcome}
use Rattle.jlr_machine.specs.declared.ask.Outcome.TheVariants.{Ok as OutcomeOk, Failed}
use Rattle.jlr_machine.specs.declared.ask.Handed.{Handed}
use Rattle.jlr_machine.specs.declared.ask.Handed.TheVariants.{Queued as HandedQueued, Lined as HandedLined, Skipped, Nothing}
use Rattle.jlr_machine.specs.declared.ask.Ask.TheVariants.{Join, New, Put, Get, SetInt, Dup, MakeRef, Deref}
use Rattle.jlr_machine.specs.declared.ask.Ask.TheVariants.{Clear, Enqueue, MakeQueue, Poll, Remove, MakeCleaner, Register, Clean}
use Rattle.jlr_machine.specs.declared.ask.Ask.TheVariants.{Prepare, Opened, CheckOut, CheckIn, Close, Finish, Bind, Find}
use Rattle.jlr_machine.specs.declared.ask.Ask.TheVariants.{HandOver, TakeUp, Begin, Abandon, Array}
use Rattle.jlr_machine.specs.declared.ask.Answer.TheVariants.{Prepared}
use Rattle.jlr_machine.specs.Objects.{at, some_and, as_reference, with_field, with_reference, with_cleanable, queue_ahead, is_lined}
use Rattle.jlr_machine.specs.Objects.{is_spent}
use Rattle.jlr_machine.specs.Lookups.{slot_named, guard_named, with_object, with_new, with_handle, with_call, on, blank, bound, job_of}
use Rattle.jlr_machine.specs.Lookups.{with_job, without_job, with_state, rid_of, cleanable_at, cleanable_of_guard, last_256}
use Rattle.jlr_machine.specs.Refusals.{given, refusal}
use Rattle.jlr_machine.specs.Calls.{reply, after, from_lined, line_answer, hand_over_answer, handle_given, with_given, made, to_queue}
use Rattle.jlr_machine.specs.Calls.{enqueued, unreferred, polled, poll_given, with_work_state, without_work_resource, taken_up, spent}
use Rattle.jlr_machine.specs.Calls.{cleaned, line_taken, delivered, handed, handed_over, prepared_in, opened, fence_of, guard_fenced}
use Rattle.jlr_machine.specs.Calls.{checked_out, checked_in, without_work, finished, noted, free_again, registered}
use Rattle.jlr_histories.specs.CycleLaws.{with_seen}

-- the machine with a cycle open or not, and these slots seen
abbrev pub with_cycle : Machine → Bool → List ℕ → Machine
with_cycle m b slots = record m { cycle_open = b; seen = slots }

-- ---- Refusals

pub same_refusal : (m : Machine) (slots : List ℕ) (ask : Ask) → refusal (with_seen m slots) ask ≡ refusal m ask
same_refusal m slots (Join k) = refl
same_refusal m slots asked = refl

-- ---- Answers

same_line : (m : Machine) (b : Bool) (slots line : List ℕ) → from_lined (with_cycle m b slots) line ≡ from_lined m line
same_line m b slots [] = refl
same_line m b slots (s ∷ line) =
    ap (λ l. cond (some_and (λ c. is_lined c.state) (cleanable_at m s)) (s ∷ line) l) (same_line m b slots line)

same_line_answer : (m : Machine) (slots line : List ℕ) → line_answer (with_seen m slots) line ≡ line_answer m line
same_line_answer m slots [] = refl
same_line_answer m slots (s ∷ line) = refl

same_hand_over_answer : (m : Machine) (slots pending : List ℕ) → hand_over_answer (with_seen m slots) pending ≡ hand_over_answer m pending
same_hand_over_answer m slots [] = refl
same_hand_over_answer m slots (s ∷ pending) = refl

same_given_answer : (m : Machine) (slots : List ℕ) (k : ℕ) (o : Option ℕ) → handle_given (with_seen m slots) k o ≡ handle_given m k o
same_given_answer m slots k None = refl
same_given_answer m slots k (Some s) = refl

pub same_reply : (m : Machine) (slots : List ℕ) (ask : Ask) → reply (with_seen m slots) ask ≡ reply m ask
same_reply m slots (Get k h f) = same_given_answer m slots k (given m (Get k h f))
same_reply m slots (Dup k h) = same_given_answer m slots k (given m (Dup k h))
same_reply m slots (Deref k r) = same_given_answer m slots k (given m (Deref k r))
same_reply m slots (Poll k q) = same_given_answer m slots k (given m (Poll k q))
same_reply m slots (Remove k q) = same_given_answer m slots k (given m (Remove k q))
same_reply m slots HandOver = same_hand_over_answer m slots m.pending
same_reply m slots TakeUp = same_line_answer m slots (from_lined (with_seen m slots) m.line)
    ∙ ap (line_answer m) (same_line m m.cycle_open slots m.line)
same_reply m slots asked = refl

-- ---- What is left, part by part

module _ (b : Bool) (slots : List ℕ) where
  -- a step and the same step where another cycle is under way
  abbrev Moves : (Machine → Machine) → Machine → Type 0
  Moves f m = f (with_cycle m b slots) ≡ with_cycle (f m) b slots

  on_moves : {A : Type 0} (m : Machine) (o : Option A) (f : Machine → A → Machine) → ((x : A) → Moves (λ m. f m x) m)
      → Moves (λ m. on o (f m) m) m
  on_moves m None f h = refl
  on_moves m (Some x) f h = h x

  given_moves : (m : Machine) (k : ℕ) (s : Option ℕ) → Moves (λ m. with_given m k s) m
  given_moves m k s = on_moves m s (λ m s. with_handle m k s) (λ s. refl)

  made_moves : (m : Machine) (k : ℕ) (fresh : List ℕ) (o : Object) → Moves (λ m. made m k fresh o) m
  made_moves m k fresh o = on_moves m (slice_get fresh 0) (λ m s. with_handle (with_new m s o) k s) (λ s. refl)

  to_queue_moves : (m : Machine) (s : ℕ) (q : Option ℕ) → Moves (λ m. to_queue m s q) m
  to_queue_moves m s None = refl
  to_queue_moves m s (Some q) = refl

  enqueued_moves : (m : Machine) (s : ℕ) → Moves (λ m. enqueued m s) m
  enqueued_moves m s = to_queue_moves (with_object m s (with_reference unreferred)) s
      (option_and_then queue_ahead (option_and_then as_reference (at m.objects s)))

  polled_moves : (m : Machine) (q : ℕ) (s : Option ℕ) → Moves (λ m. polled m q s) m
  polled_moves m q None = refl
  polled_moves m q (Some s) = refl

  poll_given_moves : (m : Machine) (k h : ℕ) (s : Option ℕ) → Moves (λ m. poll_given m k h s) m
  poll_given_moves m k h s = on_moves m (slot_named m k h) (λ m q. with_given (polled m q s) k s)
      (λ q. ap (λ n. with_given n k s) (polled_moves m q s) ∙ given_moves (polled m q s) k s)

  work_state_moves : (m : Machine) (rid : Option ℕ) (state : ResourceState) → Moves (λ m. with_work_state m rid state) m
  work_state_moves m None state = refl
  work_state_moves m (Some rid) state = refl

  work_gone_moves : (m : Machine) (rid : Option ℕ) → Moves (λ m. without_work_resource m rid) m
  work_gone_moves m None = refl
  work_gone_moves m (Some rid) = refl

  taken_up_moves : (m : Machine) (by s : ℕ) (c : CleanableOf) → Moves (λ m. taken_up m by s c) m
  taken_up_moves m by s c = work_state_moves (record
      (with_object m s (with_cleanable spent)) {
        jobs =
            with_job m.jobs (record { action = c.action; work = c.work; by = by });
        taken = m.taken + 1;
      }) (rid_of c.work) Closing

  cleaned_moves : (m : Machine) (k s : ℕ) (o : Option CleanableOf) → Moves (λ m. cleaned m k s o) m
  cleaned_moves m k s None = refl
  cleaned_moves m k s (Some c) =
      elim (is_spent c.state) as (λ d. Moves (λ m. cond d m (with_call (taken_up m k s c) k None (CallJob c.action))) m) [
        | true ↦ refl
        | false ↦ ap (λ n. with_call n k None (CallJob c.action)) (taken_up_moves m k s c)
      ]

  line_taken_moves : (m : Machine) (line : List ℕ) → Moves (λ m. line_taken m line) m
  line_taken_moves m [] = refl
  line_taken_moves m (s ∷ rest) =
      elim (cleanable_at m s) as (λ o. Moves (λ m. elim o [
        | None ↦ record m { line = rest }
        | Some c ↦
            taken_up (record m { line = rest }) 255 s c
      ]) m) [
        | None ↦ refl
        | Some c ↦ taken_up_moves (record m { line = rest }) 255 s c
      ]

  delivered_moves : (m : Machine) (s : ℕ) (h : Handed) → Moves (λ m. delivered m s h) m
  delivered_moves m s HandedQueued = enqueued_moves m s
  delivered_moves m s HandedLined = refl
  delivered_moves m s Skipped = refl
  delivered_moves m s Nothing = refl

  handed_over_moves : (m : Machine) (pending : List ℕ) → Moves (λ m. handed_over m pending) m
  handed_over_moves m [] = refl
  handed_over_moves m (s ∷ rest) =
      elim (at m.objects s) as (λ o. Moves (λ m. elim o [
        | None ↦ record m { pending = rest }
        | Some o ↦
            delivered (record m { pending = rest }) s (handed o)
      ]) m) [
        | None ↦ refl
        | Some o ↦ delivered_moves (record m { pending = rest }) s (handed o)
      ]

  prepared_moves : (m : Machine) (k : ℕ) (fresh : List ℕ) (rid : ℕ) → Moves (λ m. prepared_in m k fresh rid) m
  prepared_moves m k [] rid = refl
  prepared_moves m k (g ∷ []) rid = refl
  prepared_moves m k (g ∷ c ∷ []) rid = refl
  prepared_moves m k (g ∷ c ∷ x ∷ fresh) rid = refl

  opened_moves : (m : Machine) (k : ℕ) (g : GuardOf) (outcome : Outcome) → Moves (λ m. opened m k g outcome) m
  opened_moves m k g OutcomeOk = given_moves (with_call (with_state m g.rid Idle) k None Free) k (fence_of m k)
  opened_moves m k g (Failed fault) = refl

  work_over_moves : (m : Machine) (job : JobOf) → Moves (λ m. without_work m job) m
  work_over_moves m job = work_gone_moves (record m { jobs = without_job m.jobs job.action }) (rid_of job.work)

  finished_moves : (m : Machine) (job : JobOf) (outcome : Outcome) → Moves (λ m. finished m job outcome) m
  finished_moves m job OutcomeOk =
      ap {A = Machine} {B = Machine} (λ n. record n { ok = m.ok + 1; notes = noted m.notes job.work }) (work_over_moves m job)
  finished_moves m job (Failed fault) = ap {A = Machine} {B = Machine}
      (λ n. record n { failed = m.failed + 1; faults = last_256 (m.faults ++ record { action = job.action; fault = fault } ∷ []) })
      (work_over_moves m job)

  free_again_moves : (m : Machine) (by : ℕ) → Moves (λ m. free_again m by) m
  free_again_moves m by = elim (by == 255) as (λ d. Moves (λ m. cond d m (with_call m by None Free)) m) [ true ↦ refl | false ↦ refl ]

  ended_moves : (m : Machine) (job : JobOf) (outcome : Outcome) (by : ℕ) → Moves (λ m. free_again (finished m job outcome) by) m
  ended_moves m job outcome by = ap (λ n. free_again n by) (finished_moves m job outcome) ∙ free_again_moves (finished m job outcome) by

-- ---- What is left

-- an ask leaves the cycle as it is, or opens one, or gives it up
abbrev pub LeavesCycle : Machine → Bool → List ℕ → Ask → Answer → List ℕ → Type 0
LeavesCycle m b slots ask a fresh = (after (with_cycle m b slots) ask a fresh ≡ with_cycle (after m ask a fresh) b slots) ⊎ (ask ≡ Begin)
    ⊎ (ask ≡ Abandon)

pub leaves_cycle : (m : Machine) (b : Bool) (slots : List ℕ) (ask : Ask) (a : Answer) (fresh : List ℕ) → LeavesCycle m b slots ask a fresh
leaves_cycle m b slots (New k layout) a fresh = inl (made_moves b slots m k fresh (Plain (Typed (map blank layout))))
leaves_cycle m b slots (Array k size) a fresh = inl (made_moves b slots m k fresh (Plain (Elements (replicate size None))))
leaves_cycle m b slots (Put k h f v) a fresh =
    inl (on_moves b slots m (slot_named m k h) (λ m s. with_object m s (with_field f (RefValue (slot_named m k v)))) (λ s. refl))
leaves_cycle m b slots (Get k h f) a fresh = inl (given_moves b slots m k (given m (Get k h f)))
leaves_cycle m b slots (SetInt k h f number) a fresh =
    inl (on_moves b slots m (slot_named m k h) (λ m s. with_object m s (with_field f (IntValue number))) (λ s. refl))
leaves_cycle m b slots (Dup k h) a fresh = inl (given_moves b slots m k (given m (Dup k h)))
leaves_cycle m b slots (MakeRef k kind h q) a fresh =
    inl (made_moves b slots m k fresh
    (Reference (record { kind = kind; referent = slot_named m k h; queue = slot_named m k q; state = Fresh })))
leaves_cycle m b slots (Deref k r) a fresh = inl (given_moves b slots m k (given m (Deref k r)))
leaves_cycle m b slots (Clear k r) a fresh =
    inl (on_moves b slots m (slot_named m k r) (λ m s. with_object m s (with_reference unreferred)) (λ s. refl))
leaves_cycle m b slots (Enqueue k r) a fresh = inl (on_moves b slots m (slot_named m k r) enqueued (λ s. enqueued_moves b slots m s))
leaves_cycle m b slots (MakeQueue k) a fresh = inl (made_moves b slots m k fresh (Queue []))
leaves_cycle m b slots (Poll k q) a fresh = inl (poll_given_moves b slots m k q (given m (Poll k q)))
leaves_cycle m b slots (Remove k q) a fresh = inl (poll_given_moves b slots m k q (given m (Remove k q)))
leaves_cycle m b slots (MakeCleaner k) a fresh = inl (made_moves b slots m k fresh Cleaner)
leaves_cycle m b slots (Register k d h note) a fresh =
    inl (ap {A = Machine} {B = Machine} (λ n. record n { next_action = m.next_action + 1 })
    (made_moves b slots m k fresh (registered m k h note)))
leaves_cycle m b slots (Clean k d) a fresh = inl (on_moves b slots m (slot_named m k d) (λ m s. cleaned m k s (cleanable_at m s))
    (λ s. cleaned_moves b slots m k s (cleanable_at m s)))
leaves_cycle m b slots (Prepare k) (Prepared rid) fresh = inl (prepared_moves b slots m k fresh rid)
leaves_cycle m b slots (Opened k outcome) a fresh =
    inl (on_moves b slots m (guard_fenced m k) (λ m g. opened m k g outcome) (λ g. opened_moves b slots m k g outcome))
leaves_cycle m b slots (CheckOut k h) a fresh =
    inl (on_moves b slots m (guard_named m k h) (λ m g. checked_out m k (slot_named m k h) g) (λ g. refl))
leaves_cycle m b slots (CheckIn k outcome) a fresh = inl (on_moves b slots m (guard_fenced m k) (λ m g. checked_in m k g) (λ g. refl))
leaves_cycle m b slots (Close k h) a fresh = inl (on_moves b slots m (cleanable_of_guard m k h) (λ m s. cleaned m k s (cleanable_at m s))
    (λ s. cleaned_moves b slots m k s (cleanable_at m s)))
leaves_cycle m b slots (Finish by action outcome) a fresh =
    inl (on_moves b slots m (job_of m action) (λ m job. free_again (finished m job outcome) by)
    (λ job. ended_moves b slots m job outcome by))
leaves_cycle m b slots (Bind k name h) a fresh =
    inl (on_moves b slots m (slot_named m k h) (λ m s. record m { names = bound m.names name s }) (λ s. refl))
leaves_cycle m b slots (Find k name) a fresh = inl (given_moves b slots m k (given m (Find k name)))
leaves_cycle m b slots HandOver a fresh = inl (handed_over_moves b slots m m.pending)
leaves_cycle m b slots TakeUp a fresh =
    inl (ap (line_taken (with_cycle m b slots)) (same_line m b slots m.line) ∙ line_taken_moves b slots m (from_lined m m.line))
leaves_cycle m b slots Begin a fresh = inr (inl refl)
leaves_cycle m b slots Abandon a fresh = inr (inr refl)
leaves_cycle m b slots asked a fresh = inl refl
