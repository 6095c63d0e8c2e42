-- No ask changes how many cells there are.
use Rattle.std.proofs.Common.{replicate, ◌≡◌, ℕ, ◌+◌, ◌==◌, true, false, cond, List, [], ◌∷◌, ◌++◌, length, refl, ◌∙◌, Option, Some, None}
use Rattle.std.proofs.Common.{option_and_then, drop, map, slice_get}
use Rattle.std.proofs.lemmas.List.{length-set}
use Rattle.jlr_types.specs.declared.FieldValue.TheVariants.{Int as IntValue, Ref as RefValue}
use Rattle.jlr_machine.specs.declared.object.Object.{Object}
use Rattle.jlr_machine.specs.declared.object.Contents.TheVariants.{Typed, Elements}
use Rattle.jlr_machine.specs.declared.object.Object.TheVariants.{Plain, Reference, Queue, Cleaner, Cleanable, Guard}
use Rattle.jlr_machine.specs.declared.object.Cleanable.{Cleanable as CleanableOf}
use Rattle.jlr_machine.specs.declared.object.CleanState.TheVariants.{Armed, Lined}
use Rattle.jlr_machine.specs.declared.object.Guard.{Guard as GuardOf}
use Rattle.jlr_machine.specs.declared.object.RefState.TheVariants.{Fresh, Queued, Removed}
use Rattle.jlr_types.specs.declared.Work.TheVariants.{Resource as WorkOn}
use Rattle.jlr_machine.specs.declared.machine.Machine.{Machine}
use Rattle.jlr_machine.specs.declared.machine.Job.{Job as JobOf}
use Rattle.jlr_machine.specs.declared.machine.Call.TheVariants.{Free, Job as CallJob}
use Rattle.jlr_machine.specs.declared.machine.ResourceState.{ResourceState}
use Rattle.jlr_machine.specs.declared.machine.ResourceState.TheVariants.{Idle, Closing}
use Rattle.jlr_machine.specs.declared.ask.Outcome.{Outcome}
use Rattle.jlr_machine.specs.declared.ask.Outcome.TheVariants.{Ok as OutcomeOk, Failed}
use Rattle.jlr_machine.specs.declared.ask.Handed.{Handed}
use Rattle.jlr_machine.specs.declared.ask.Handed.TheVariants.{Queued as HandedQueued, Lined as HandedLined, Skipped, Nothing}
use Rattle.jlr_machine.specs.declared.ask.Ask.{Ask}
use Rattle.jlr_machine.specs.declared.ask.Ask.TheVariants.{New, Put, Get, SetInt, Dup, MakeRef, Deref}
use Rattle.jlr_machine.specs.declared.ask.Ask.TheVariants.{Clear, Enqueue, MakeQueue, Poll, Remove, MakeCleaner, Register, Clean}
use Rattle.jlr_machine.specs.declared.ask.Ask.TheVariants.{Prepare, Opened, CheckOut, CheckIn, Close, Finish, Bind, Find}
use Rattle.jlr_machine.specs.declared.ask.Ask.TheVariants.{HandOver, TakeUp, Array}
use Rattle.jlr_machine.specs.declared.ask.Answer.{Answer}
use Rattle.jlr_machine.specs.declared.ask.Answer.TheVariants.{Prepared}
use Rattle.jlr_machine.specs.Objects.{at, as_reference, with_field, with_reference, with_members, with_cleanable, queue_ahead, is_spent}
use Rattle.jlr_machine.specs.Lookups.{slot_named, guard_named, with_object, with_new, with_handle, with_call, on, blank, bound, job_of}
use Rattle.jlr_machine.specs.Lookups.{with_job, without_job, with_state, rid_of, cleanable_at, cleanable_of_guard}
use Rattle.jlr_machine.specs.Refusals.{given}
use Rattle.jlr_machine.specs.Calls.{after, from_lined, with_given, made, to_queue, enqueued, unreferred, polled, poll_given}
use Rattle.jlr_machine.specs.Calls.{with_work_state, without_work_resource, taken_up, spent, cleaned, line_taken, delivered, handed}
use Rattle.jlr_machine.specs.Calls.{handed_over, prepared_in, opened, fence_of, guard_fenced, checked_out, checked_in, finished, free_again}
use Rattle.jlr_machine.specs.Calls.{registered}
use Rattle.jlr_laws.proofs.Frames.{change_as_long}

abbrev pub SameCells : Machine → Machine → Type 0
SameCells m n = length n.objects ≡ length m.objects

-- ---- What is left, part by part

on_cells : {A : Type 0} (m : Machine) (o : Option A) (f : A → Machine) → ((x : A) → SameCells m (f x)) → SameCells m (on o f m)
on_cells m None f h = refl
on_cells m (Some x) f h = h x

object_cells : (m : Machine) (s : ℕ) (f : Object → Object) → SameCells m (with_object m s f)
object_cells m s f = change_as_long m.objects s f

new_cells : (m : Machine) (s : ℕ) (o : Object) → SameCells m (with_new m s o)
new_cells m s o = length-set m.objects s (Some o)

given_cells : (m : Machine) (k : ℕ) (s : Option ℕ) → SameCells m (with_given m k s)
given_cells m k s = on_cells m s (with_handle m k) (λ s. refl)

made_cells : (m : Machine) (k : ℕ) (fresh : List ℕ) (o : Object) → SameCells m (made m k fresh o)
made_cells m k fresh o = on_cells m (slice_get fresh 0) (λ s. with_handle (with_new m s o) k s) (λ s. new_cells m s o)

to_queue_cells : (m : Machine) (s : ℕ) (q : Option ℕ) → SameCells m (to_queue m s q)
to_queue_cells m s None = refl
to_queue_cells m s (Some q) =
    let queued : Object → Object = with_reference (λ r. record r { state = Queued; queue = None }) in
    object_cells (with_object m s queued) q (with_members (λ members. members ++ s ∷ [])) ∙ object_cells m s queued

enqueued_cells : (m : Machine) (s : ℕ) → SameCells m (enqueued m s)
enqueued_cells m s =
    to_queue_cells (with_object m s (with_reference unreferred)) s
    (option_and_then queue_ahead (option_and_then as_reference (at m.objects s))) ∙ object_cells m s (with_reference unreferred)

polled_cells : (m : Machine) (q : ℕ) (s : Option ℕ) → SameCells m (polled m q s)
polled_cells m q None = refl
polled_cells m q (Some s) =
    object_cells (with_object m q (with_members (drop 1))) s (with_reference (λ r. record r { state = Removed }))
    ∙ object_cells m q (with_members (drop 1))

poll_given_cells : (m : Machine) (k h : ℕ) (s : Option ℕ) → SameCells m (poll_given m k h s)
poll_given_cells m k h s =
    on_cells m (slot_named m k h) (λ q. with_given (polled m q s) k s) (λ q. given_cells (polled m q s) k s ∙ polled_cells m q s)

work_state_cells : (m : Machine) (rid : Option ℕ) (state : ResourceState) → SameCells m (with_work_state m rid state)
work_state_cells m None state = refl
work_state_cells m (Some rid) state = refl

work_gone_cells : (m : Machine) (rid : Option ℕ) → SameCells m (without_work_resource m rid)
work_gone_cells m None = refl
work_gone_cells m (Some rid) = refl

taken_up_cells : (m : Machine) (by s : ℕ) (c : CleanableOf) → SameCells m (taken_up m by s c)
taken_up_cells m by s c =
    work_state_cells (record (with_object m s (with_cleanable spent)) {
      jobs = with_job m.jobs
          (record { action = c.action; work = c.work; by = by });
      taken = m.taken + 1;
    }) (rid_of c.work) Closing
    ∙ object_cells m s (with_cleanable spent)

cleaned_cells : (m : Machine) (k s : ℕ) (o : Option CleanableOf) → SameCells m (cleaned m k s o)
cleaned_cells m k s None = refl
cleaned_cells m k s (Some c) = elim (is_spent c.state) as (λ d. SameCells m
    (cond d m (with_call (taken_up m k s c) k None (CallJob c.action)))) [ true ↦ refl | false ↦ taken_up_cells m k s c ]

line_taken_cells : (m : Machine) (line : List ℕ) → SameCells m (line_taken m line)
line_taken_cells m [] = refl
line_taken_cells m (s ∷ rest) =
    elim (cleanable_at m s) as (λ o. SameCells m (elim
    o [ None ↦ record m { line = rest } | Some c ↦ taken_up (record m { line = rest }) 255 s c ])) [
      | None ↦ refl
      | Some c ↦ taken_up_cells (record m { line = rest }) 255 s c
    ]

delivered_cells : (m : Machine) (s : ℕ) (h : Handed) → SameCells m (delivered m s h)
delivered_cells m s HandedQueued = enqueued_cells m s
delivered_cells m s HandedLined = object_cells m s (with_cleanable (λ c. record c { state = Lined }))
delivered_cells m s Skipped = refl
delivered_cells m s Nothing = refl

handed_over_cells : (m : Machine) (pending : List ℕ) → SameCells m (handed_over m pending)
handed_over_cells m [] = refl
handed_over_cells m (s ∷ rest) =
    elim (at m.objects s) as (λ o. SameCells m (elim
    o [ None ↦ record m { pending = rest } | Some o ↦ delivered (record m { pending = rest }) s (handed o) ])) [
      | None ↦ refl
      | Some o ↦ delivered_cells (record m { pending = rest }) s (handed o)
    ]

prepared_cells : (m : Machine) (k : ℕ) (fresh : List ℕ) (rid : ℕ) → SameCells m (prepared_in m k fresh rid)
prepared_cells m k [] rid = refl
prepared_cells m k (g ∷ []) rid = refl
prepared_cells m k (g ∷ c ∷ []) rid =
    let guarded = with_new m g (Guard (record { rid = rid; cleanable = c })) in
    new_cells guarded c (Cleanable (record { referent = Some g; action = m.next_action; work = WorkOn rid; state = Armed }))
    ∙ new_cells m g (Guard (record { rid = rid; cleanable = c }))
prepared_cells m k (g ∷ c ∷ x ∷ fresh) rid = refl

opened_cells : (m : Machine) (k : ℕ) (g : GuardOf) (outcome : Outcome) → SameCells m (opened m k g outcome)
opened_cells m k g OutcomeOk = given_cells (with_call (with_state m g.rid Idle) k None Free) k (fence_of m k)
opened_cells m k g (Failed fault) = object_cells m g.cleanable (with_cleanable spent)

finished_cells : (m : Machine) (job : JobOf) (outcome : Outcome) → SameCells m (finished m job outcome)
finished_cells m job OutcomeOk = work_gone_cells (record m { jobs = without_job m.jobs job.action }) (rid_of job.work)
finished_cells m job (Failed fault) = work_gone_cells (record m { jobs = without_job m.jobs job.action }) (rid_of job.work)

free_again_cells : (m : Machine) (by : ℕ) → SameCells m (free_again m by)
free_again_cells m by = elim (by == 255) as (λ d. SameCells m (cond d m (with_call m by None Free))) [ true ↦ refl | false ↦ refl ]

-- ---- What is left

pub same_cells : (m : Machine) (ask : Ask) (a : Answer) (fresh : List ℕ) → SameCells m (after m ask a fresh)
same_cells m (New k layout) a fresh = made_cells m k fresh (Plain (Typed (map blank layout)))
same_cells m (Array k size) a fresh = made_cells m k fresh (Plain (Elements (replicate size None)))
same_cells m (Put k h f v) a fresh = on_cells m (slot_named m k h) (λ s. with_object m s (with_field f (RefValue (slot_named m k v))))
    (λ s. object_cells m s (with_field f (RefValue (slot_named m k v))))
same_cells m (Get k h f) a fresh = given_cells m k (given m (Get k h f))
same_cells m (SetInt k h f number) a fresh = on_cells m (slot_named m k h) (λ s. with_object m s (with_field f (IntValue number)))
    (λ s. object_cells m s (with_field f (IntValue number)))
same_cells m (Dup k h) a fresh = given_cells m k (given m (Dup k h))
same_cells m (MakeRef k kind h q) a fresh =
    made_cells m k fresh (Reference (record { kind = kind; referent = slot_named m k h; queue = slot_named m k q; state = Fresh }))
same_cells m (Deref k r) a fresh = given_cells m k (given m (Deref k r))
same_cells m (Clear k r) a fresh =
    on_cells m (slot_named m k r) (λ s. with_object m s (with_reference unreferred)) (λ s. object_cells m s (with_reference unreferred))
same_cells m (Enqueue k r) a fresh = on_cells m (slot_named m k r) (enqueued m) (enqueued_cells m)
same_cells m (MakeQueue k) a fresh = made_cells m k fresh (Queue [])
same_cells m (Poll k q) a fresh = poll_given_cells m k q (given m (Poll k q))
same_cells m (Remove k q) a fresh = poll_given_cells m k q (given m (Remove k q))
same_cells m (MakeCleaner k) a fresh = made_cells m k fresh Cleaner
same_cells m (Register k d h note) a fresh = made_cells m k fresh (registered m k h note)
same_cells m (Clean k d) a fresh =
    on_cells m (slot_named m k d) (λ s. cleaned m k s (cleanable_at m s)) (λ s. cleaned_cells m k s (cleanable_at m s))
same_cells m (Prepare k) (Prepared rid) fresh = prepared_cells m k fresh rid
same_cells m (Opened k outcome) a fresh = on_cells m (guard_fenced m k) (λ g. opened m k g outcome) (λ g. opened_cells m k g outcome)
same_cells m (CheckOut k h) a fresh = on_cells m (guard_named m k h) (checked_out m k (slot_named m k h)) (λ g. refl)
same_cells m (CheckIn k outcome) a fresh = on_cells m (guard_fenced m k) (checked_in m k) (λ g. refl)
same_cells m (Close k h) a fresh =
    on_cells m (cleanable_of_guard m k h) (λ s. cleaned m k s (cleanable_at m s)) (λ s. cleaned_cells m k s (cleanable_at m s))
same_cells m (Finish by action outcome) a fresh =
    on_cells m (job_of m action) (λ job. free_again (finished m job outcome) by)
    (λ job. free_again_cells (finished m job outcome) by ∙ finished_cells m job outcome)
same_cells m (Bind k name h) a fresh = on_cells m (slot_named m k h) (λ s. record m { names = bound m.names name s }) (λ s. refl)
same_cells m (Find k name) a fresh = given_cells m k (given m (Find k name))
same_cells m HandOver a fresh = handed_over_cells m m.pending
same_cells m TakeUp a fresh = line_taken_cells m (from_lined m m.line)
same_cells m asked a fresh = refl
