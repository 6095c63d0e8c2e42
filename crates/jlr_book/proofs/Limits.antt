-- No entry changes how many cells, mutators and resources there may be.
use Rattle.std.proofs.Common.{◌≡◌, ℕ, ◌+◌, Bool, true, false, List, [], ◌∷◌, length, map, replicate, refl, ◌∙◌, ap, Option, Some, None}
use Rattle.std.proofs.Common.{option_and_then, slice_get, if◌then◌else◌, ◌==◌}
use Rattle.std.proofs.lemmas.List.{length-set}
use Rattle.jlr_types.specs.declared.FieldValue.TheVariants.{Int as IntValue, Ref as RefValue}
use Rattle.jlr_types.specs.declared.Work.TheVariants.{Resource as WorkOn}
use Rattle.jlr_machine.specs.declared.object.Object.{Object}
use Rattle.jlr_machine.specs.declared.object.Contents.TheVariants.{Typed, Elements}
use Rattle.jlr_machine.specs.declared.object.Object.TheVariants.{Plain, Reference, Queue, Cleaner, Cleanable, Guard}
use Rattle.jlr_machine.specs.declared.object.Cleanable.{Cleanable as CleanableOf}
use Rattle.jlr_machine.specs.declared.object.Guard.{Guard as GuardOf}
use Rattle.jlr_machine.specs.declared.object.CleanState.TheVariants.{Armed}
use Rattle.jlr_machine.specs.declared.object.RefState.TheVariants.{Fresh}
use Rattle.jlr_machine.specs.declared.machine.Machine.{Machine}
use Rattle.jlr_machine.specs.declared.machine.Session.{Session}
use Rattle.jlr_machine.specs.declared.machine.Job.{Job as JobOf}
use Rattle.jlr_machine.specs.declared.machine.Call.{Call}
use Rattle.jlr_machine.specs.declared.machine.Call.TheVariants.{Free, Out as CallOut, Job as CallJob}
use Rattle.jlr_machine.specs.declared.machine.ResourceState.{ResourceState}
use Rattle.jlr_machine.specs.declared.machine.ResourceState.TheVariants.{Idle, Out, Closing}
use Rattle.jlr_machine.specs.declared.ask.Outcome.{Outcome}
use Rattle.jlr_machine.specs.declared.ask.Outcome.TheVariants.{Ok as OutcomeOk, Failed}
use Rattle.jlr_machine.specs.declared.ask.Handed.{Handed}
use Rattle.jlr_machine.specs.declared.ask.Handed.TheVariants.{Queued as HandedQueued, Lined as HandedLined, Skipped, Nothing}
use Rattle.jlr_machine.specs.declared.ask.Ask.{Ask}
use Rattle.jlr_machine.specs.declared.ask.Ask.TheVariants.{Join, Leave, New, Put, Get, SetInt, Dup, Drop, MakeRef, Deref, Clear, Enqueue}
use Rattle.jlr_machine.specs.declared.ask.Ask.TheVariants.{MakeQueue, Poll, Remove, MakeCleaner, Register, Clean, Prepare, Opened, CheckOut}
use Rattle.jlr_machine.specs.declared.ask.Ask.TheVariants.{CheckIn, Close, Finish, Bind, Find, HandOver, TakeUp, Array}
use Rattle.jlr_machine.specs.declared.ask.Answer.{Answer}
use Rattle.jlr_machine.specs.declared.ask.Answer.TheVariants.{Prepared, Refused}
use Rattle.jlr_machine.specs.declared.entry.Collected.{Collected}
use Rattle.jlr_machine.specs.declared.entry.Entry.{Entry}
use Rattle.jlr_machine.specs.Objects.{at, as_reference, with_reference, with_cleanable, with_members, with_field, queue_ahead, is_spent}
use Rattle.jlr_machine.specs.Objects.{empty_at}
use Rattle.jlr_machine.specs.Lookups.{slot_named, guard_named, cleanable_of_guard, cleanable_at, on, job_of, rid_of, with_job, without_job}
use Rattle.jlr_machine.specs.Lookups.{with_session, with_state, with_object, with_handle, with_new, with_call, without_resource, bound}
use Rattle.jlr_machine.specs.Lookups.{blank}
use Rattle.jlr_machine.specs.Refusals.{given}
use Rattle.jlr_machine.specs.Calls.{after, handed, made, registered, with_given, to_queue, unreferred, enqueued, polled, poll_given}
use Rattle.jlr_machine.specs.Calls.{delivered, handed_over, guard_fenced, fence_of, opened, checked_out, checked_in, prepared_in, spent}
use Rattle.jlr_machine.specs.Calls.{with_work_state, without_work_resource, taken_up, cleaned, line_taken, from_lined, finished, free_again}
use Rattle.jlr_machine.specs.Calls.{fresh_session}
use Rattle.jlr_machine.specs.Run.{Run, with_collection, carried, apply}
use Rattle.jlr_laws.proofs.Frames.{change_as_long}
use Rattle.jlr_laws.proofs.ObjectLeft.{length_left}
use Rattle.jlr_book.specs.Limits.{HasSameLimits}

pub record Bounds : Type 0 where
  pub cells : ℕ
  pub sessions : ℕ
  pub limit : ℕ

abbrev pub bounds : Machine → Bounds
bounds m = record { cells = length m.objects; sessions = length m.mutators; limit = m.resource_limit }

-- ---- Changes that leave them

in_cells : (m : Machine) (n : ℕ) → n ≡ length m.objects → ◌≡◌ {A = Bounds} (record (bounds m) { cells = n }) (bounds m)
in_cells m n e = ap {A = ℕ} {B = Bounds} (λ k. record (bounds m) { cells = k }) e

in_sessions : (m : Machine) (n : ℕ) → n ≡ length m.mutators → ◌≡◌ {A = Bounds} (record (bounds m) { sessions = n }) (bounds m)
in_sessions m n e = ap {A = ℕ} {B = Bounds} (λ k. record (bounds m) { sessions = k }) e

session_kept : (m : Machine) (k : ℕ) (f : Session → Session) → bounds (with_session m k f) ≡ bounds m
session_kept m k f = in_sessions m _ (change_as_long m.mutators k f)

object_kept : (m : Machine) (s : ℕ) (f : Object → Object) → bounds (with_object m s f) ≡ bounds m
object_kept m s f = in_cells m _ (change_as_long m.objects s f)

new_kept : (m : Machine) (s : ℕ) (o : Object) → bounds (with_new m s o) ≡ bounds m
new_kept m s o = in_cells m _ (length-set m.objects s (Some o))

handle_kept : (m : Machine) (k s : ℕ) → bounds (with_handle m k s) ≡ bounds m
handle_kept m k s = in_sessions m _ (change_as_long m.mutators k _)

call_kept : (m : Machine) (k : ℕ) (fence : Option ℕ) (call : Call) → bounds (with_call m k fence call) ≡ bounds m
call_kept m k fence call = in_sessions m _ (change_as_long m.mutators k _)

kept_on : {A : Type 0} (m : Machine) (o : Option A) (f : A → Machine) → ((x : A) → bounds (f x) ≡ bounds m) → bounds (on o f m) ≡ bounds m
kept_on m None f h = refl
kept_on m (Some x) f h = h x

kept_if : (m x y : Machine) (b : Bool) → bounds x ≡ bounds m → bounds y ≡ bounds m → bounds (if b then x else y) ≡ bounds m
kept_if m x y true l r = l
kept_if m x y false l r = r

given_kept : (m : Machine) (k : ℕ) (o : Option ℕ) → bounds (with_given m k o) ≡ bounds m
given_kept m k o = kept_on m o (with_handle m k) (handle_kept m k)

to_queue_kept : (m : Machine) (s : ℕ) (o : Option ℕ) → bounds (to_queue m s o) ≡ bounds m
to_queue_kept m s None = refl
to_queue_kept m s (Some q) = object_kept (with_object m s (with_reference _)) q (with_members _) ∙ object_kept m s (with_reference _)

enqueued_kept : (m : Machine) (s : ℕ) → bounds (enqueued m s) ≡ bounds m
enqueued_kept m s = to_queue_kept (with_object m s (with_reference unreferred)) s
    (option_and_then queue_ahead (option_and_then as_reference (at m.objects s))) ∙ object_kept m s (with_reference unreferred)

polled_kept : (m : Machine) (q : ℕ) (o : Option ℕ) → bounds (polled m q o) ≡ bounds m
polled_kept m q None = refl
polled_kept m q (Some s) = object_kept (with_object m q (with_members _)) s (with_reference _) ∙ object_kept m q (with_members _)

poll_kept : (m : Machine) (k h : ℕ) (o : Option ℕ) → bounds (poll_given m k h o) ≡ bounds m
poll_kept m k h o =
    kept_on m (slot_named m k h) (λ q. with_given (polled m q o) k o) (λ q. given_kept (polled m q o) k o ∙ polled_kept m q o)

made_kept : (m : Machine) (k : ℕ) (fresh : List ℕ) (o : Object) → bounds (made m k fresh o) ≡ bounds m
made_kept m k fresh o =
    kept_on m (slice_get fresh 0) (λ s. with_handle (with_new m s o) k s) (λ s. handle_kept (with_new m s o) k s ∙ new_kept m s o)

prepared_kept : (m : Machine) (k : ℕ) (fresh : List ℕ) (rid : ℕ) → bounds (prepared_in m k fresh rid) ≡ bounds m
prepared_kept m k [] rid = refl
prepared_kept m k (g ∷ []) rid = refl
prepared_kept m k (g ∷ c ∷ []) rid =
    let guard : Object = Guard (record { rid = rid; cleanable = c }) in
    let cleanable : Object = Cleanable (record { referent = Some g; action = m.next_action; work = WorkOn rid; state = Armed }) in
    in_sessions (with_new (with_new m g guard) c cleanable) _ (change_as_long m.mutators k _) ∙ new_kept (with_new m g guard) c cleanable
    ∙ new_kept m g guard
prepared_kept m k (g ∷ c ∷ x ∷ rest) rid = refl

delivered_kept : (m : Machine) (s : ℕ) (h : Handed) → bounds (delivered m s h) ≡ bounds m
delivered_kept m s HandedQueued = enqueued_kept m s
delivered_kept m s HandedLined = object_kept m s (with_cleanable _)
delivered_kept m s Skipped = refl
delivered_kept m s Nothing = refl

handed_over_kept : (m : Machine) (slots : List ℕ) → bounds (handed_over m slots) ≡ bounds m
handed_over_kept m [] = refl
handed_over_kept m (s ∷ rest) =
    elim (at m.objects s) as (λ o. bounds (elim o as (λ _. Machine) [
      | None ↦ record m { pending = rest }
      | Some o ↦
          delivered (record m { pending = rest }) s (handed o)
    ]) ≡ bounds m) [
      | None ↦ refl
      | Some o ↦ delivered_kept (record m { pending = rest }) s (handed o)
    ]

-- ---- Jobs

work_state_kept : (m : Machine) (o : Option ℕ) (state : ResourceState) → bounds (with_work_state m o state) ≡ bounds m
work_state_kept m None state = refl
work_state_kept m (Some rid) state = refl

without_kept : (m : Machine) (o : Option ℕ) → bounds (without_work_resource m o) ≡ bounds m
without_kept m None = refl
without_kept m (Some rid) = refl

taken_kept : (m : Machine) (by s : ℕ) (c : CleanableOf) → bounds (taken_up m by s c) ≡ bounds m
taken_kept m by s c =
    work_state_kept (record (with_object m s (with_cleanable spent)) {
      jobs = with_job m.jobs
          (record { action = c.action; work = c.work; by = by });
      taken = m.taken + 1;
    }) (rid_of c.work) Closing
    ∙ object_kept m s (with_cleanable spent)

cleaned_kept : (m : Machine) (k s : ℕ) (o : Option CleanableOf) → bounds (cleaned m k s o) ≡ bounds m
cleaned_kept m k s None = refl
cleaned_kept m k s (Some c) =
    kept_if m m (with_call (taken_up m k s c) k None (CallJob c.action)) (is_spent c.state) refl
    (call_kept (taken_up m k s c) k None (CallJob c.action) ∙ taken_kept m k s c)

line_taken_kept : (m : Machine) (slots : List ℕ) → bounds (line_taken m slots) ≡ bounds m
line_taken_kept m [] = refl
line_taken_kept m (s ∷ rest) =
    elim (cleanable_at m s) as (λ o. bounds (elim o as (λ _. Machine) [
      | None ↦ record m { line = rest }
      | Some c ↦
          taken_up (record m { line = rest }) 255 s c
    ]) ≡ bounds m) [
      | None ↦ refl
      | Some c ↦ taken_kept (record m { line = rest }) 255 s c
    ]

finished_kept : (m : Machine) (job : JobOf) (outcome : Outcome) → bounds (finished m job outcome) ≡ bounds m
finished_kept m job OutcomeOk = without_kept (record m { jobs = without_job m.jobs job.action }) (rid_of job.work)
finished_kept m job (Failed fault) = without_kept (record m { jobs = without_job m.jobs job.action }) (rid_of job.work)

free_kept : (m n : Machine) (by : ℕ) → bounds n ≡ bounds m → bounds (free_again n by) ≡ bounds m
free_kept m n by e = kept_if m n (with_call n by None Free) (by == 255) e (call_kept n by None Free ∙ e)

opened_kept : (m : Machine) (k : ℕ) (g : GuardOf) (outcome : Outcome) → bounds (opened m k g outcome) ≡ bounds m
opened_kept m k g OutcomeOk = given_kept (with_call (with_state m g.rid Idle) k None Free) k (fence_of m k)
    ∙ call_kept (with_state m g.rid Idle) k None Free
opened_kept m k g (Failed fault) =
    call_kept (with_object (without_resource m g.rid) g.cleanable (with_cleanable spent)) k None Free
    ∙ object_kept (without_resource m g.rid) g.cleanable (with_cleanable spent)

-- ---- Asks

kept : (m : Machine) (ask : Ask) (a : Answer) (fresh : List ℕ) → bounds (after m ask a fresh) ≡ bounds m
kept m (Join k) a fresh = in_sessions m _ (length-set m.mutators k (Some fresh_session))
kept m (Leave k) a fresh = in_sessions m _ (length-set m.mutators k None)
kept m (New k layout) a fresh = made_kept m k fresh (Plain (Typed (map blank layout)))
kept m (Put k h f v) a fresh =
    kept_on m (slot_named m k h) (λ s. with_object m s (with_field f (RefValue (slot_named m k v)))) (λ s. object_kept m s _)
kept m (Get k h f) a fresh = given_kept m k (given m (Get k h f))
kept m (SetInt k h f v) a fresh = kept_on m (slot_named m k h) (λ s. with_object m s (with_field f (IntValue v))) (λ s. object_kept m s _)
kept m (Dup k h) a fresh = given_kept m k (given m (Dup k h))
kept m (Drop k h) a fresh = session_kept m k (λ s. record s { handles = empty_at s.handles h })
kept m (MakeRef k kind h q) a fresh =
    made_kept m k fresh (Reference (record { kind = kind; referent = slot_named m k h; queue = slot_named m k q; state = Fresh }))
kept m (Deref k h) a fresh = given_kept m k (given m (Deref k h))
kept m (Clear k h) a fresh = kept_on m (slot_named m k h) (λ s. with_object m s (with_reference unreferred)) (λ s. object_kept m s _)
kept m (Enqueue k h) a fresh = kept_on m (slot_named m k h) (enqueued m) (enqueued_kept m)
kept m (MakeQueue k) a fresh = made_kept m k fresh (Queue [])
kept m (Poll k h) a fresh = poll_kept m k h (given m (Poll k h))
kept m (Remove k h) a fresh = poll_kept m k h (given m (Remove k h))
kept m (MakeCleaner k) a fresh = made_kept m k fresh Cleaner
kept m (Register k d h note) a fresh = made_kept m k fresh (registered m k h note)
kept m (Clean k h) a fresh =
    kept_on m (slot_named m k h) (λ s. cleaned m k s (cleanable_at m s)) (λ s. cleaned_kept m k s (cleanable_at m s))
kept m (Prepare k) (Prepared rid) fresh = prepared_kept m k fresh rid
kept m (Prepare k) a fresh = refl
kept m (Opened k outcome) a fresh = kept_on m (guard_fenced m k) (λ g. opened m k g outcome) (λ g. opened_kept m k g outcome)
kept m (CheckOut k h) a fresh = kept_on m (guard_named m k h) (checked_out m k (slot_named m k h))
    (λ g. call_kept (with_state m g.rid Out) k (slot_named m k h) (CallOut g.rid))
kept m (CheckIn k outcome) a fresh = kept_on m (guard_fenced m k) (checked_in m k) (λ g. call_kept (with_state m g.rid Idle) k None Free)
kept m (Close k h) a fresh =
    kept_on m (cleanable_of_guard m k h) (λ s. cleaned m k s (cleanable_at m s)) (λ s. cleaned_kept m k s (cleanable_at m s))
kept m (Finish by action outcome) a fresh = kept_on m (job_of m action) (λ job. free_again (finished m job outcome) by)
    (λ job. free_kept m (finished m job outcome) by (finished_kept m job outcome))
kept m (Bind k name h) a fresh = kept_on m (slot_named m k h) (λ s. record m { names = bound m.names name s }) (λ s. refl)
kept m (Find k name) a fresh = given_kept m k (given m (Find k name))
kept m HandOver a fresh = handed_over_kept m m.pending
kept m TakeUp a fresh = line_taken_kept m (from_lined m m.line)
kept m (Array k n) a fresh = made_kept m k fresh (Plain (Elements (replicate n None)))
kept m ask a fresh = refl

-- ---- Entries and runs

collected_kept : (m : Machine) (o : Option Collected) → bounds (with_collection m o) ≡ bounds m
collected_kept m None = refl
collected_kept m (Some c) = in_cells m _ (length_left c.kept c.pending 0 m.objects)

carried_kept : (m n : Machine) (ask : Ask) (a : Answer) (fresh : List ℕ) → bounds n ≡ bounds m → bounds (carried n ask a fresh) ≡ bounds m
carried_kept m n ask (Refused by) fresh e = e
carried_kept m n ask a fresh e = kept n ask a fresh ∙ e

entry_kept : (m : Machine) (e : Entry) → bounds (apply m e) ≡ bounds m
entry_kept m e = carried_kept m (with_collection m e.choice.collected) e.ask e.answer e.choice.fresh (collected_kept m e.choice.collected)

run_kept : (m n : Machine) (entries : List Entry) → Run m entries n → bounds n ≡ bounds m
run_kept m n [] r = ap {A = Machine} {B = Bounds} bounds r
run_kept m n (e ∷ entries) r = run_kept (apply m e) n entries r.1 ∙ entry_kept m e

pub runs_keep_the_limits : (m n : Machine) (entries : List Entry) → Run m entries n → HasSameLimits m n
runs_keep_the_limits m n entries r =
    let same = run_kept m n entries r in
    record {
      cells = ap {A = Bounds} {B = ℕ} (λ b. b.cells) same;
      sessions = ap {A = Bounds} {B = ℕ} (λ b. b.sessions) same;
      resources = ap {A = Bounds} {B = ℕ} (λ b. b.limit) same;
    }
