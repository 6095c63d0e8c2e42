-- What the asks that have to do with a resource do to it.
use Rattle.std.proofs.Common.{◌≡◌, ℕ, ◌==◌, true, false, List, [], ◌∷◌, length, refl, sym, ◌∙◌, ap, subst, inl, arith, Option, Some, None}
use Rattle.std.proofs.Common.{option_map, option_and_then, is_none}
use Rattle.std.proofs.lemmas.Bool.{both_ways, cond_both, cond-true, cond-false, not-false}
use Rattle.jlr_types.specs.declared.Fault.{Fault}
use Rattle.jlr_types.specs.declared.Work.{Work}
use Rattle.jlr_types.specs.declared.Work.TheVariants.{Note, Resource as WorkOn}
use Rattle.jlr_types.specs.declared.Refusal.TheVariants.{Busy, Closed, NoHandle, NotOut, Null, WrongKind}
use Rattle.jlr_machine.specs.declared.object.Object.TheVariants.{Cleanable, Guard}
use Rattle.jlr_machine.specs.declared.object.Cleanable.{Cleanable as CleanableOf}
use Rattle.jlr_machine.specs.declared.object.Guard.{Guard as GuardOf}
use Rattle.jlr_machine.specs.declared.object.CleanState.TheVariants.{Armed}
use Rattle.jlr_machine.specs.declared.machine.Machine.{Machine}
use Rattle.jlr_machine.specs.declared.machine.Session.{Session}
use Rattle.jlr_machine.specs.declared.machine.Job.{Job as JobOf}
use Rattle.jlr_machine.specs.declared.machine.Resource.{Resource}
use Rattle.jlr_machine.specs.declared.machine.Call.TheVariants.{Free, Job as CallJob}
use Rattle.jlr_machine.specs.declared.machine.ResourceState.{ResourceState}
use Rattle.jlr_machine.specs.declared.machine.ResourceState.TheVariants.{Opening, Idle, Out, Closing}
use Rattle.jlr_machine.specs.declared.ask.Outcome.{Outcome}
use Rattle.jlr_machine.specs.declared.ask.Outcome.TheVariants.{Ok as OutcomeOk, Failed}
use Rattle.jlr_machine.specs.declared.ask.CallOutcome.{CallOutcome}
use Rattle.jlr_machine.specs.declared.ask.CallOutcome.TheVariants.{Data as GotData, Wrote as GotWrote, Failed as GotFailed}
use Rattle.jlr_machine.specs.declared.ask.Handed.TheVariants.{Nothing}
use Rattle.jlr_machine.specs.declared.ask.Ask.{Ask}
use Rattle.jlr_machine.specs.declared.ask.Ask.TheVariants.{Clean, Prepare, Opened, CheckOut, CheckIn, Close, Finish, TakeUp}
use Rattle.jlr_machine.specs.declared.ask.Answer.{Answer}
use Rattle.jlr_machine.specs.declared.ask.Answer.TheVariants.{Done, Handle, Faulted, Job, AlreadyDone, Prepared, Out as OutAnswer}
use Rattle.jlr_machine.specs.declared.ask.Answer.TheVariants.{Handed as HandedAnswer}
use Rattle.jlr_machine.specs.Objects.{at, some_and, as_guard, as_cleanable, is_spent, is_lined}
use Rattle.jlr_machine.specs.Lookups.{slot_named, guard_named, on, with_call, with_state, resource_at, job_of, without_job, cleanable_at}
use Rattle.jlr_machine.specs.Lookups.{cleanable_of_guard, free_handle, rid_of}
use Rattle.jlr_machine.specs.Refusals.{refusal, has_call, is_closed, is_out, is_out_state, is_guard, is_cleanable}
use Rattle.jlr_machine.specs.Calls.{after, reply, call_answer, outcome_answer, take_up_answer, from_lined, line_answer, line_taken}
use Rattle.jlr_machine.specs.Calls.{prepared_in, opened, checked_out, checked_in, finished, free_again, cleaned, taken_up, with_given}
use Rattle.jlr_machine.specs.Calls.{without_work_resource}
use Rattle.jlr_machine.specs.WellFormed.{IsWellFormed, IsSessionAt, IsCleanableAt, HasResource, IsJob}
use Rattle.jlr_laws.proofs.Frames.{some_same, is_cleanable_there}
use Rattle.jlr_laws.proofs.Keyed.{key_found}
use Rattle.jlr_laws.proofs.Changes.{resource}
use Rattle.jlr_laws.proofs.Allowed.{allowed, opening_session, out_session, some_and_gives, IsNamed, only_operand, guard_of, cleanable_of}
use Rattle.jlr_laws.proofs.Allowed.{closed_is, out_is}
use Rattle.jlr_laws.proofs.keeps.Calls.{not_spent, not_busy, idle_if, open_guard, out_ends, opening_ends, fence_on, guard_on}
use Rattle.jlr_laws.proofs.keeps.TakeUps.{shut, taken_up_is}
use Rattle.jlr_laws.proofs.keeps.Finish.{ended}
use Rattle.jlr_laws.proofs.keeps.Prepare.{with_resource-keyed}
use Rattle.jlr_histories.specs.ResourceLives.{action_at, rid_called, action_called, to_finish, doing, ended_by, deed_of}
use Rattle.jlr_histories.specs.ResourceLives.Deed.{EndsOpen, FailsOpen, BeginsCall, EndsCall, BeginsFinish, EndsFinish}
use Rattle.jlr_histories.proofs.Takes.{first_lined, lined_unspent}
use Rattle.jlr_histories.proofs.Moving.{IsMoving}
use Rattle.jlr_histories.proofs.Moving.IsMoving.{still, opens, moves, ends}

-- ---- Prepare

none_there : {A : Type 0} (o : Option A) → is_none o ≡ true → o ≡ None
none_there None e = refl
none_there (Some x) e = absurd (both_ways false refl e)

pub prepare_moves : (m : Machine) (k rid : ℕ) (fresh : List ℕ) → is_none (resource_at m rid) ≡ true → length fresh ≡ 2
    → IsMoving m (prepared_in m k fresh rid) (deed_of m (Prepare k) (Prepared rid))
prepare_moves m k rid [] free two = absurd (omega (arith, two))
prepare_moves m k rid (g ∷ []) free two = absurd (omega (arith, two))
prepare_moves m k rid (g ∷ c ∷ []) free two =
    opens rid (none_there (resource_at m rid) free) (with_resource-keyed m.resources (resource rid m.next_action Opening)) refl
prepare_moves m k rid (g ∷ c ∷ x ∷ rest) free two = absurd (omega (arith, two))

-- ---- Calls on a resource

found_action : (m : Machine) (rid action : ℕ) (s : ResourceState) → HasResource m rid action s → action_at m rid ≡ Some action
found_action m rid action s h = ap (option_map (λ (r : Resource). r.action)) h

-- the action of the resource of a mutator's call
called : (m : Machine) (k rid action : ℕ) (s : ResourceState) (session : Session) → IsSessionAt m k session
    → rid_called session.call ≡ Some rid → HasResource m rid action s → action_called m k ≡ Some action
called m k rid action s session e f h =
    ap (λ o. option_and_then (action_at m) (option_and_then (λ (s : Session). rid_called s.call) o)) e
    ∙ ap (option_and_then (action_at m)) f ∙ found_action m rid action s h

-- a guard that is named, neither closed nor out, has an idle resource
idle_guard : (m : Machine) (k h t : ℕ) (session : Session) (g : GuardOf) (c : CleanableOf) → IsWellFormed m
    → IsNamed m k h t session (Guard g) → IsCleanableAt m g.cleanable c
    → is_spent c.state ≡ false → is_out m k h ≡ false → (c.work ≡ WorkOn g.rid) × HasResource m g.rid c.action Idle
idle_guard m k h t session g c w named there open_still in_table =
    let x = open_guard m k h t session g c w named there (not_spent c open_still) in
    let closed : is_closed m k h ≡ false = closed_is m k h g c named.named there ∙ open_still in
    let out : is_out_state x.0 ≡ false = sym (out_is m k h g (resource g.rid c.action x.0) named.named x.1.resource closed) ∙ in_table in
    (x.1.own.work, subst (λ s. HasResource m g.rid c.action s) (idle_if x.0 x.1.not_closing x.1.not_opening out) x.1.resource)

-- what is checked out
record IsCheckedOut (m : Machine) (k h : ℕ) (a : Answer) : Type 0 where
  pub guard : GuardOf
  pub action : ℕ
  pub named : guard_named m k h ≡ Some guard
  pub answer : OutAnswer guard.rid ≡ a
  pub idle : HasResource m guard.rid action Idle

still_open : (m : Machine) (k h t : ℕ) (session : Session) (g : GuardOf) (c : CleanableOf) → IsNamed m k h t session (Guard g)
    → IsCleanableAt m g.cleanable c → is_closed m k h ≡ false → is_spent c.state ≡ false
still_open m k h t session g c named there e = sym (closed_is m k h g c named.named there) ∙ e

is_checked_out : (m : Machine) (k h : ℕ) (a : Answer) → IsWellFormed m → refusal m (CheckOut k h) ≡ None → reply m (CheckOut k h) ≡ Some a
    → IsCheckedOut m k h a
is_checked_out m k h a w r answers =
    let ok = allowed m (CheckOut k h) r in
    let o = only_operand m k h is_guard w (ok NoHandle refl) (ok Null refl) (ok WrongKind refl) in
    let g = guard_of o.2 o.4 in
    let named : IsNamed m k h o.0 o.1 (Guard g.0) = subst (λ z. IsNamed m k h o.0 o.1 z) g.1 o.3 in
    let c = w.slots.guarded o.0 g.0 named.there in
    let busy = not_busy (is_out m k h) (has_call m k) (ok Busy refl) in
    let guard : guard_named m k h ≡ Some g.0 = ap (option_and_then as_guard) named.named in
    record {
      guard = g.0;
      action = c.0.action;
      named = guard;
      answer = some_same (OutAnswer g.0.rid) a (sym (ap (option_map (λ (g : GuardOf). OutAnswer g.rid)) guard) ∙ answers);
      idle = (idle_guard m k h o.0 o.1 g.0 c.0 w named c.1 (still_open m k h o.0 o.1 g.0 c.0 named c.1 (ok Closed refl)) busy.0).1;
    }

pub check_out_moves : (m : Machine) (k h : ℕ) (a : Answer) (fresh : List ℕ) → IsWellFormed m → refusal m (CheckOut k h) ≡ None
    → reply m (CheckOut k h) ≡ Some a
    → IsMoving m (after m (CheckOut k h) a fresh) (deed_of m (CheckOut k h) a)
check_out_moves m k h a fresh w r answers =
    let x = is_checked_out m k h a w r answers in
    subst (λ z. IsMoving m (on z (checked_out m k (slot_named m k h)) m) (deed_of m (CheckOut k h) a)) (sym x.named)
    (subst (λ z. IsMoving m (checked_out m k (slot_named m k h) x.guard) (deed_of m (CheckOut k h) z)) x.answer
    (moves x.guard.rid x.action Idle Out BeginsCall x.idle refl (ap (doing BeginsCall) (found_action m x.guard.rid x.action Idle x.idle))
    refl))

-- so it was idle
pub checked_out_idle : (m : Machine) (k h rid : ℕ) → IsWellFormed m → refusal m (CheckOut k h) ≡ None
    → reply m (CheckOut k h) ≡ Some (OutAnswer rid) → (action : ℕ) × HasResource m rid action Idle
checked_out_idle m k h rid w r answers =
    let x = is_checked_out m k h (OutAnswer rid) w r answers in
    let same : x.guard.rid ≡ rid = cc x.answer in
    (x.action, subst (λ i. HasResource m i x.action Idle) same x.idle)

ends_a_call : (m : Machine) (k : ℕ) (given outcome : CallOutcome)
    → deed_of m (CheckIn k given) (call_answer outcome) ≡ doing EndsCall (action_called m k)
ends_a_call m k given (GotData bytes) = refl
ends_a_call m k given (GotWrote n) = refl
ends_a_call m k given (GotFailed fault) = refl

pub check_in_moves : (m : Machine) (k : ℕ) (outcome : CallOutcome) (a : Answer) (fresh : List ℕ) → IsWellFormed m
    → refusal m (CheckIn k outcome) ≡ None → reply m (CheckIn k outcome) ≡ Some a
    → IsMoving m (after m (CheckIn k outcome) a fresh) (deed_of m (CheckIn k outcome) a)
check_in_moves m k outcome a fresh w r answers =
    let ok = allowed m (CheckIn k outcome) r in
    let s = out_session m k (ok NotOut refl) in
    let x = out_ends m k s.0 s.2 w s.1 s.3 in
    let action = called m k x.1.rid x.2.action Out s.0 s.1 (ap rid_called s.3 ∙ ap (λ z. Some z) (x.3.out_only s.2 s.3)) x.3.resource in
    subst (λ z. IsMoving m (on z (checked_in m k) m) (deed_of m (CheckIn k outcome) a))
    (sym (guard_on m k s.0 x.0 x.1 s.1 x.3.fence x.3.guard))
    (subst (λ z. IsMoving m (checked_in m k x.1) (deed_of m (CheckIn k outcome) z)) (some_same (call_answer outcome) a answers)
    (moves x.1.rid x.2.action Out Idle EndsCall x.3.resource refl (ends_a_call m k outcome outcome ∙ ap (doing EndsCall) action) refl))

pub opened_moves : (m : Machine) (k : ℕ) (a : Answer) (fresh : List ℕ) → IsWellFormed m → refusal m (Opened k OutcomeOk) ≡ None
    → reply m (Opened k OutcomeOk) ≡ Some a
    → IsMoving m (after m (Opened k OutcomeOk) a fresh) (deed_of m (Opened k OutcomeOk) a)
opened_moves m k a fresh w r answers =
    let ok = allowed m (Opened k OutcomeOk) r in
    let s = opening_session m k (ok NotOut refl) in
    let x = opening_ends m k s.0 s.2 w s.1 s.3 in
    let action =
    called m k x.1.rid x.2.action Opening s.0 s.1 (ap rid_called s.3 ∙ ap (λ z. Some z) (x.3.opening_only s.2 s.3)) x.3.resource in
    let answer : Handle (free_handle s.0) ≡ a =
    some_same (Handle (free_handle s.0)) a (sym (ap (option_map (λ (s : Session). Handle (free_handle s))) s.1) ∙ answers) in
    subst (λ z. IsMoving m (on z (λ g. opened m k g OutcomeOk) m) (deed_of m (Opened k OutcomeOk) a))
    (sym (guard_on m k s.0 x.0 x.1 s.1 x.3.fence x.3.guard))
    (subst (λ z. IsMoving m (opened m k x.1 OutcomeOk) (deed_of m (Opened k OutcomeOk) z)) answer
    (subst (λ z. IsMoving m (with_given (with_call (with_state m x.1.rid Idle) k None Free) k z) (doing EndsOpen (action_called m k)))
    (sym (fence_on m k s.0 x.0 s.1 x.3.fence))
    (moves x.1.rid x.2.action Opening Idle EndsOpen x.3.resource refl (ap (doing EndsOpen) action) refl)))

pub open_failed_moves : (m : Machine) (k : ℕ) (fault : Fault) (a : Answer) (fresh : List ℕ) → IsWellFormed m
    → refusal m (Opened k (Failed fault)) ≡ None → reply m (Opened k (Failed fault)) ≡ Some a
    → IsMoving m (after m (Opened k (Failed fault)) a fresh) (deed_of m (Opened k (Failed fault)) a)
open_failed_moves m k fault a fresh w r answers =
    let ok = allowed m (Opened k (Failed fault)) r in
    let s = opening_session m k (ok NotOut refl) in
    let x = opening_ends m k s.0 s.2 w s.1 s.3 in
    let action =
    called m k x.1.rid x.2.action Opening s.0 s.1 (ap rid_called s.3 ∙ ap (λ z. Some z) (x.3.opening_only s.2 s.3)) x.3.resource in
    subst (λ z. IsMoving m (on z (λ g. opened m k g (Failed fault)) m) (deed_of m (Opened k (Failed fault)) a))
    (sym (guard_on m k s.0 x.0 x.1 s.1 x.3.fence x.3.guard))
    (subst (λ z. IsMoving m (opened m k x.1 (Failed fault)) (deed_of m (Opened k (Failed fault)) z)) (some_same (Faulted fault) a answers)
    (ends x.1.rid x.2.action Opening FailsOpen x.3.resource refl (ap (doing FailsOpen) action) refl))

-- ---- Take-ups

-- a job with this work is handed out, and its resource, if it is one, was idle
job_moves : (m n : Machine) (action : ℕ) (work : Work) → n.resources ≡ shut m.resources work
    → ((rid : ℕ) → work ≡ WorkOn rid → HasResource m rid action Idle) → IsMoving m n (doing BeginsFinish (to_finish action work))
job_moves m n action (Note i) e idle = still e refl
job_moves m n action (WorkOn rid) e idle = moves rid action Idle Closing BeginsFinish (idle rid refl) e refl refl

-- a take-up by an ask that ends nothing
take_up_moves : (m n : Machine) (ask : Ask) (c : CleanableOf) (a : Answer) → ended_by m ask ≡ None → take_up_answer c ≡ a
    → (is_spent c.state ≡ true → n.resources ≡ m.resources)
    → (is_spent c.state ≡ false → n.resources ≡ shut m.resources c.work)
    → (is_spent c.state ≡ false → (rid : ℕ) → c.work ≡ WorkOn rid → HasResource m rid c.action Idle) → IsMoving m n (deed_of m ask a)
take_up_moves m n ask c a none answer spent taken idle =
    subst (λ z. IsMoving m n (deed_of m ask z)) answer
    (cond_both (is_spent c.state) AlreadyDone (Job c.action c.work) (λ z. IsMoving m n (deed_of m ask z))
    (λ e. still (spent e) none)
    (λ e. job_moves m n c.action c.work (taken e) (idle e)))

-- by a mutator
cleaned_moves : (m : Machine) (k s : ℕ) (ask : Ask) (c : CleanableOf) (a : Answer) → ended_by m ask ≡ None → take_up_answer c ≡ a
    → (is_spent c.state ≡ false → (rid : ℕ) → c.work ≡ WorkOn rid → HasResource m rid c.action Idle)
    → IsMoving m (cleaned m k s (Some c)) (deed_of m ask a)
cleaned_moves m k s ask c a none answer idle =
    take_up_moves m (cleaned m k s (Some c)) ask c a none answer
    (λ e. ap (λ (n : Machine). n.resources) (cond-true (is_spent c.state) m (with_call (taken_up m k s c) k None (CallJob c.action)) e))
    (λ e. ap (λ (n : Machine). n.resources) (cond-false (is_spent c.state) m (with_call (taken_up m k s c) k None (CallJob c.action)) e)
    ∙ ap (λ (n : Machine). n.resources) (taken_up_is m k s c))
    idle

-- by its guard
closed_moves : (m : Machine) (k h t : ℕ) (session : Session) (g : GuardOf) (c : CleanableOf) (a : Answer) (fresh : List ℕ) → IsWellFormed m
    → IsNamed m k h t session (Guard g) → IsCleanableAt m g.cleanable c → is_out m k h ≡ false
    → reply m (Close k h) ≡ Some a → IsMoving m (after m (Close k h) a fresh) (deed_of m (Close k h) a)
closed_moves m k h t session g c a fresh w named cleaner in_table answers =
    let idle : is_spent c.state ≡ false → (rid : ℕ) → c.work ≡ WorkOn rid → HasResource m rid c.action Idle = λ p rid e.
    let x = idle_guard m k h t session g c w named cleaner p in_table in
    let works : WorkOn g.rid ≡ WorkOn rid = sym x.0 ∙ e in
    let same : g.rid ≡ rid = cc works in
    subst (λ i. HasResource m i c.action Idle) same x.1 in
    let slot : cleanable_of_guard m k h ≡ Some g.cleanable =
    ap (λ o. option_map (λ (g : GuardOf). g.cleanable) (option_and_then as_guard o)) named.named in
    let there : cleanable_at m g.cleanable ≡ Some c = ap (option_and_then as_cleanable) cleaner in
    let answer : take_up_answer c ≡ a = some_same (take_up_answer c) a
    (sym (ap (λ o. option_map take_up_answer (option_and_then (cleanable_at m) o)) slot ∙ ap (option_map take_up_answer) there)
    ∙ answers) in
    subst (λ o. IsMoving m (on o (λ s. cleaned m k s (cleanable_at m s)) m) (deed_of m (Close k h) a)) (sym slot)
    (subst (λ z. IsMoving m (cleaned m k g.cleanable z) (deed_of m (Close k h) a)) (sym there)
    (cleaned_moves m k g.cleanable (Close k h) c a refl answer idle))

pub close_moves : (m : Machine) (k h : ℕ) (a : Answer) (fresh : List ℕ) → IsWellFormed m → refusal m (Close k h) ≡ None
    → reply m (Close k h) ≡ Some a → IsMoving m (after m (Close k h) a fresh) (deed_of m (Close k h) a)
close_moves m k h a fresh w r answers =
    let ok = allowed m (Close k h) r in
    let o = only_operand m k h is_guard w (ok NoHandle refl) (ok Null refl) (ok WrongKind refl) in
    let g = guard_of o.2 o.4 in
    let named : IsNamed m k h o.0 o.1 (Guard g.0) = subst (λ z. IsNamed m k h o.0 o.1 z) g.1 o.3 in
    let c = w.slots.guarded o.0 g.0 named.there in
    let busy = not_busy (is_out m k h) (has_call m k) (ok Busy refl) in
    closed_moves m k h o.0 o.1 g.0 c.0 a fresh w named c.1 busy.0 answers

-- no handle names a cleanable whose work is a resource
pub clean_moves : (m : Machine) (k h : ℕ) (a : Answer) (fresh : List ℕ) → IsWellFormed m → refusal m (Clean k h) ≡ None
    → reply m (Clean k h) ≡ Some a → IsMoving m (after m (Clean k h) a fresh) (deed_of m (Clean k h) a)
clean_moves m k h a fresh w r answers =
    let ok = allowed m (Clean k h) r in
    let o = only_operand m k h is_cleanable w (ok NoHandle refl) (ok Null refl) (ok WrongKind refl) in
    let c = cleanable_of o.2 o.4 in
    let named : IsNamed m k h o.0 o.1 (Cleanable c.0) = subst (λ z. IsNamed m k h o.0 o.1 z) c.1 o.3 in
    let there : cleanable_at m o.0 ≡ Some c.0 = ap (option_and_then as_cleanable) named.there in
    let answer : take_up_answer c.0 ≡ a = some_same (take_up_answer c.0) a
    (sym (ap (λ o. option_map take_up_answer (option_and_then as_cleanable o)) named.named) ∙ answers) in
    subst (λ o. IsMoving m (on o (λ s. cleaned m k s (cleanable_at m s)) m) (deed_of m (Clean k h) a)) (sym named.slot)
    (subst (λ z. IsMoving m (cleaned m k o.0 z) (deed_of m (Clean k h) a)) (sym there)
    (cleaned_moves m k o.0 (Clean k h) c.0 a refl answer
    (λ _ rid e. absurd (w.unnamed.handles k h o.0 o.1 named.session_there named.handle (inl (c.0, rid, named.there, e))))))

-- by the cleaner
line_moves : (m : Machine) (line : List ℕ) (a : Answer) → IsWellFormed m
    → ((s : ℕ) (rest : List ℕ) → line ≡ s ∷ rest → some_and (λ c. is_lined c.state) (cleanable_at m s) ≡ true) → line_answer m line ≡ Some a
    → IsMoving m (line_taken m line) (deed_of m TakeUp a)
line_moves m [] a w first answers =
    subst (λ z. IsMoving m (record m { line = [] }) (deed_of m TakeUp z)) (some_same (HandedAnswer Nothing) a answers) (still refl refl)
line_moves m (s ∷ rest) a w first answers =
    let r = some_and_gives (λ (c : CleanableOf). is_lined c.state) (cleanable_at m s) (first s rest refl) in
    let there : IsCleanableAt m s r.0 = is_cleanable_there (at m.objects s) r.0 r.1 in
    let free : is_spent r.0.state ≡ false = lined_unspent r.0.state r.2 in
    let not_armed : r.0.state ≡ Armed → ⊥ = λ e. both_ways (is_lined r.0.state) (ap is_lined e) r.2 in
    let answer : take_up_answer r.0 ≡ a = some_same (take_up_answer r.0) a (sym (ap (option_map take_up_answer) r.1) ∙ answers) in
    subst (λ o. IsMoving m (elim o as (λ _. Machine) [
      | None ↦ record m { line = rest }
      | Some c ↦
          taken_up (record m { line = rest }) 255 s c
    ]) (deed_of m TakeUp a)) (sym r.1)
    (take_up_moves m (taken_up (record m { line = rest }) 255 s r.0) TakeUp r.0 a refl answer
    (λ e. absurd (both_ways (is_spent r.0.state) free e))
    (λ e. ap (λ (n : Machine). n.resources) (taken_up_is (record m { line = rest }) 255 s r.0))
    (λ e rid f. w.resources.idle s rid r.0 (record { there = there; unspent = not_spent r.0 free }) f not_armed))

pub line_taken_moves : (m : Machine) (a : Answer) (fresh : List ℕ) → IsWellFormed m → reply m TakeUp ≡ Some a
    → IsMoving m (after m TakeUp a fresh) (deed_of m TakeUp a)
line_taken_moves m a fresh w answers = line_moves m (from_lined m m.line) a w (first_lined m m.line) answers

-- ---- The end of a job

ends_a_finish : (m : Machine) (by action : ℕ) (given outcome : Outcome) (a : Answer) → outcome_answer outcome (Some Done) ≡ Some a
    → deed_of m (Finish by action given) a ≡ ended_by m (Finish by action given)
ends_a_finish m by action given OutcomeOk a e = ap (deed_of m (Finish by action given)) (sym (some_same Done a e))
ends_a_finish m by action given (Failed fault) a e = ap (deed_of m (Finish by action given)) (sym (some_same (Faulted fault) a e))

work_resources : (m : Machine) (work : Work) → (without_work_resource m (rid_of work)).resources ≡ ended m.resources work
work_resources m (Note i) = refl
work_resources m (WorkOn rid) = refl

finished_resources : (m : Machine) (job : JobOf) (outcome : Outcome) → (finished m job outcome).resources ≡ ended m.resources job.work
finished_resources m job OutcomeOk = work_resources (record m { jobs = without_job m.jobs job.action }) job.work
finished_resources m job (Failed fault) = work_resources (record m { jobs = without_job m.jobs job.action }) job.work

freed_resources : (n : Machine) (by : ℕ) → (free_again n by).resources ≡ n.resources
freed_resources n by = cond_both (by == 255) n (with_call n by None Free) (λ z. z.resources ≡ n.resources) (λ _. refl) (λ _. refl)

over_moves : (m n : Machine) (action : ℕ) (work : Work) → n.resources ≡ ended m.resources work
    → ((rid : ℕ) → work ≡ WorkOn rid → HasResource m rid action Closing) → IsMoving m n (doing EndsFinish (to_finish action work))
over_moves m n action (Note i) e was = still e refl
over_moves m n action (WorkOn rid) e was = ends rid action Closing EndsFinish (was rid refl) e refl refl

pub finish_moves : (m : Machine) (by action : ℕ) (outcome : Outcome) (a : Answer) (fresh : List ℕ) → IsWellFormed m
    → refusal m (Finish by action outcome) ≡ None → reply m (Finish by action outcome) ≡ Some a
    → IsMoving m (after m (Finish by action outcome) a fresh) (deed_of m (Finish by action outcome) a)
finish_moves m by action outcome a fresh w r answers =
    let ok = allowed m (Finish by action outcome) r in
    let job = some_and_gives (λ (job : JobOf). job.by == by) (job_of m action) (not-false _ (ok NotOut refl)) in
    let is : job.0.action ≡ action = key_found {A = JobOf} (λ j. j.action) m.jobs action job.0 job.1 in
    let running : IsJob m job.0 = ap (job_of m) is ∙ job.1 in
    let n = free_again (finished m job.0 outcome) by in
    let what : deed_of m (Finish by action outcome) a ≡ doing EndsFinish (to_finish job.0.action job.0.work) =
    ends_a_finish m by action outcome outcome a answers
    ∙ ap (λ o. doing EndsFinish (option_and_then (λ (job : JobOf). to_finish job.action job.work) o)) job.1 in
    subst (λ o. IsMoving m (on o (λ job. free_again (finished m job outcome) by) m) (deed_of m (Finish by action outcome) a)) (sym job.1)
    (subst (λ z. IsMoving m n z) (sym what)
    (over_moves m n job.0.action job.0.work (freed_resources (finished m job.0 outcome) by ∙ finished_resources m job.0 outcome)
    (λ rid e. w.resources.of_jobs job.0 rid running e)))
