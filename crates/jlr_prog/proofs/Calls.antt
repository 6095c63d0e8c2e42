-- Calls of mutator 0: an ask that hands something out begins one, and the ask that tells what came of it ends it.
use Rattle.std.proofs.Common.{◌≡◌, ℕ, List, [], ◌∷◌, Option, Some, None, true, false, not, IsTrue, cond, refl, ◌⊎◌, sym, ◌∙◌, ap, subst}
use Rattle.std.proofs.Common.{◌<◌, inl, inr, length, arith, option_map, option_and_then}
use Rattle.std.proofs.lemmas.Bool.{both_ways}
use Rattle.jlr_types.specs.declared.Work.{Work}
use Rattle.jlr_types.specs.declared.Refusal.{Refusal}
use Rattle.jlr_types.specs.declared.Refusal.TheVariants.{NoMemory, HeapFull}
use Rattle.jlr_machine.specs.declared.object.Cleanable.{Cleanable as CleanableOf}
use Rattle.jlr_machine.specs.declared.object.Guard.{Guard as GuardOf}
use Rattle.jlr_machine.specs.declared.machine.Machine.{Machine}
use Rattle.jlr_machine.specs.declared.machine.Session.{Session}
use Rattle.jlr_machine.specs.declared.machine.Call.{Call}
use Rattle.jlr_machine.specs.declared.machine.Call.TheVariants.{Free, Opening as CallOpening, Out as CallOut, Job as CallJob}
use Rattle.jlr_machine.specs.declared.machine.ResourceState.TheVariants.{Idle}
use Rattle.jlr_machine.specs.declared.ask.Ask.{Ask}
use Rattle.jlr_machine.specs.declared.ask.Ask.TheVariants.{Join, Leave, Clean, Prepare, Opened, CheckOut, CheckIn, Close, Finish}
use Rattle.jlr_machine.specs.declared.ask.Outcome.{Outcome}
use Rattle.jlr_machine.specs.declared.ask.Outcome.TheVariants.{Ok as OutcomeOk, Failed}
use Rattle.jlr_machine.specs.declared.ask.CallOutcome.{CallOutcome}
use Rattle.jlr_machine.specs.declared.ask.CallOutcome.TheVariants.{Data as GotData, Wrote as GotWrote, Failed as GotFailed}
use Rattle.jlr_machine.specs.declared.ask.Answer.{Answer}
use Rattle.jlr_machine.specs.declared.ask.Answer.TheVariants.{Done, Handle, Job, AlreadyDone, Prepared, Out, Refused}
use Rattle.jlr_machine.specs.Chosen.{Chosen}
use Rattle.jlr_machine.specs.declared.entry.Collected.{Collected}
use Rattle.jlr_machine.specs.Objects.{Table, at, change_at, as_cleanable, is_spent}
use Rattle.jlr_machine.specs.Lookups.{slot_named, free_handle, with_call, with_state, guard_named, cleanable_at, cleanable_of_guard, job_of}
use Rattle.jlr_machine.specs.Lookups.{on}
use Rattle.jlr_machine.specs.Refusals.{refusal, is_end, cells_needed}
use Rattle.jlr_machine.specs.Calls.{after, take_up_answer, taken_up, cleaned, prepared_in, checked_out, checked_in, opened, guard_fenced}
use Rattle.jlr_machine.specs.Calls.{fence_of, finished, free_again, outcome_answer, call_answer, new_handle, fresh_session}
use Rattle.jlr_machine.specs.Run.{IsLegal, IsCarriedOut, MayCollect, Answers, has_room, with_collection, carried, done, now_seen, apply}
use Rattle.jlr_machine.specs.Run.IsLegal.{carried_out, refused, heap_full, out_of_memory}
use Rattle.jlr_machine.specs.WellFormed.{IsWellFormed, IsCallOf, FitsItsCall}
use Rattle.jlr_laws.proofs.Frames.{no_some, some_same, set_same}
use Rattle.jlr_laws.proofs.LegalKept.{entry, no_need}
use Rattle.jlr_laws.proofs.Changes.{change_here}
use Rattle.jlr_laws.proofs.keeps.Calls.{guard_on, opening_ends, out_ends}
use Rattle.jlr_prog.proofs.Staying.{given_stays, taken_up_stays, finished_stays, refused_stays, collected_stays}

-- mutator 0 is joined, and has no call in flight
abbrev pub IsHere : Machine → Type 0
IsHere m = IsCallOf m 0 Free

-- ---- Cases of legal entries

-- carried out, or refused
abbrev Comes : Machine → Ask → Answer → Chosen → Type 0
Comes m ask answer chosen = IsCarriedOut m (entry 0 ask answer chosen) ⊎ ((by : Refusal) × (answer ≡ Refused by))

comes : (m : Machine) (ask : Ask) (answer : Answer) (chosen : Chosen) → IsLegal m (entry 0 ask answer chosen) → Comes m ask answer chosen
comes m ask answer chosen (carried_out c) = inl c
comes m ask answer chosen (refused r) = inr (r.by, r.answers)
comes m ask answer chosen (heap_full r) = inr (HeapFull, r.answers)
comes m ask answer chosen (out_of_memory r) = inr (NoMemory, r.answers)

-- an end that is not refused is carried out
ends : (m : Machine) (ask : Ask) (answer : Answer) (chosen : Chosen) → (IsTrue (not (has_room m (cells_needed ask))) → ⊥)
    → (IsTrue (not (is_end ask)) → ⊥) → refusal m ask ≡ None
    → IsLegal m (entry 0 ask answer chosen) → IsCarriedOut m (entry 0 ask answer chosen)
ends m ask answer chosen small end allowed (carried_out c) = c
ends m ask answer chosen small end allowed (refused r) = no_some r.by (sym allowed ∙ r.first)
ends m ask answer chosen small end allowed (heap_full r) = absurd (small r.no_room)
ends m ask answer chosen small end allowed (out_of_memory r) = absurd (end r.no_end)

-- no collection comes with an ask that makes no object
alone : (m : Machine) (ask : Ask) (answer : Answer) (chosen : Chosen) (Q : Machine → Type 0)
    → ((c : Collected) → MayCollect m ask (Some c) → ⊥) → ((n : Machine) (seen : List ℕ) → Q n → Q (record n { seen = seen }))
    → (Answers m ask None answer → Q (carried m ask answer chosen.fresh)) → IsCarriedOut m (entry 0 ask answer chosen)
    → Q (apply m (entry 0 ask answer chosen))
alone m ask answer chosen Q never unseen h c =
    unseen (done m (entry 0 ask answer chosen)) (now_seen (done m (entry 0 ask answer chosen)))
    (elim (chosen.collected) as (λ o. MayCollect m ask o → Answers (with_collection m o) ask o answer
    → Q (carried (with_collection m o) ask answer chosen.fresh)) [
      | None ↦ λ g a. h a
      | Some x ↦ λ g a. absurd (never x g)
    ] c.collection c.answers)

-- a call is set at a place of the table where a session is
called : (table : Table Session) (fence : Option ℕ) (call before : Call) → ((s : Session) × (at table 0 ≡ Some s) × (s.call ≡ before))
    → (s : Session) × (at (change_at table 0 (λ s. record s { fence = fence; call = call })) 0 ≡ Some s) × (s.call ≡ call)
called table fence call before h =
    (record h.0 { fence = fence; call = call }, change_here table 0 (λ s. record s { fence = fence; call = call }) h.0 h.1, refl)

-- ---- Calls that begin

abbrev pub WasRefused : Answer → Type 0
WasRefused answer = (by : Refusal) × (answer ≡ Refused by)

-- a place in the table was prepared
prepared_begins : (m : Machine) (fresh : List ℕ) (rid : ℕ) → length fresh ≡ 2 → IsHere m
    → IsCallOf (prepared_in m 0 fresh rid) 0 (CallOpening rid)
prepared_begins m [] rid two h = absurd (omega (arith, two))
prepared_begins m (g ∷ []) rid two h = absurd (omega (arith, two))
prepared_begins m (g ∷ c ∷ []) rid two h = called m.mutators (Some g) (CallOpening rid) Free h
prepared_begins m (g ∷ c ∷ x ∷ rest) rid two h = absurd (omega (arith, two))

abbrev pub BeginsToOpen : Answer → Machine → Type 0
BeginsToOpen answer n = ((rid : ℕ) × (answer ≡ Prepared rid) × IsCallOf n 0 (CallOpening rid)) ⊎ (WasRefused answer × IsHere n)

prepare_carried : (m : Machine) (answer : Answer) (chosen : Chosen) → IsHere m → IsCarriedOut m (entry 0 (Prepare 0) answer chosen)
    → BeginsToOpen answer (apply m (entry 0 (Prepare 0) answer chosen))
prepare_carried m answer chosen h c =
    let n = with_collection m chosen.collected in
    let there = collected_stays Free m chosen.collected h in
    inl (
      c.answers.0,
      c.answers.3,
      subst (λ a. IsCallOf (carried n (Prepare 0) a chosen.fresh) 0 (CallOpening c.answers.0))
          (sym c.answers.3) (prepared_begins n chosen.fresh c.answers.0 c.fresh.count there),
    )

pub prepare_begins : (m : Machine) (answer : Answer) (chosen : Chosen) → IsHere m → IsLegal m (entry 0 (Prepare 0) answer chosen)
    → BeginsToOpen answer (apply m (entry 0 (Prepare 0) answer chosen))
prepare_begins m answer chosen h l = elim (comes m (Prepare 0) answer chosen l) [
  | inl c ↦ prepare_carried m answer chosen h c
  | inr r ↦ inr (r, refused_stays Free m (entry 0 (Prepare 0) answer chosen) r.0 r.1 h)
]

-- a resource was checked out
abbrev pub BeginsToCall : Answer → Machine → Type 0
BeginsToCall answer n = ((rid : ℕ) × (answer ≡ Out rid) × IsCallOf n 0 (CallOut rid)) ⊎ (WasRefused answer × IsHere n)

guard_out : (m : Machine) (h : ℕ) (answer : Answer) (g : Option GuardOf) → IsHere m → option_map (λ g. Out g.rid) g ≡ Some answer
    → (rid : ℕ) × (answer ≡ Out rid) × IsCallOf (on g (checked_out m 0 (slot_named m 0 h)) m) 0 (CallOut rid)
guard_out m h answer None here e = no_some answer e
guard_out m h answer (Some g) here e = (g.rid, sym (some_same _ answer e), called m.mutators (slot_named m 0 h) (CallOut g.rid) Free here)

out_carried : (m : Machine) (h : ℕ) (answer : Answer) (fresh : List ℕ)
    → (rid : ℕ) × (answer ≡ Out rid) × IsCallOf (on (guard_named m 0 h) (checked_out m 0 (slot_named m 0 h)) m) 0 (CallOut rid)
    → (rid : ℕ) × (answer ≡ Out rid) × IsCallOf (carried m (CheckOut 0 h) answer fresh) 0 (CallOut rid)
out_carried m h answer fresh x = (x.0, x.1, subst (λ a. IsCallOf (carried m (CheckOut 0 h) a fresh) 0 (CallOut x.0)) (sym x.1) x.2)

pub check_out_begins : (m : Machine) (h : ℕ) (answer : Answer) (chosen : Chosen) → IsHere m
    → IsLegal m (entry 0 (CheckOut 0 h) answer chosen) → BeginsToCall answer (apply m (entry 0 (CheckOut 0 h) answer chosen))
check_out_begins m h answer chosen here l = elim (comes m (CheckOut 0 h) answer chosen l) [
  | inl c ↦ inl (alone m (CheckOut 0 h) answer chosen (λ n. (rid : ℕ) × (answer ≡ Out rid) × IsCallOf n 0 (CallOut rid))
      (λ x g. no_need m g.0) (λ n seen q. q) (λ a. out_carried m h answer chosen.fresh (guard_out m h answer (guard_named m 0 h) here a)) c)
  | inr r ↦ inr (r, refused_stays Free m (entry 0 (CheckOut 0 h) answer chosen) r.0 r.1 here)
]

-- a cleaning action was taken up; or it was taken up before
abbrev pub BeginsToWork : Answer → Machine → Type 0
BeginsToWork answer n = ((action : ℕ) × (work : Work) × (answer ≡ Job action work) × IsCallOf n 0 (CallJob action))
    ⊎ (((answer ≡ AlreadyDone) ⊎ WasRefused answer) × IsHere n)

cleaned_begins : (m : Machine) (s : ℕ) (c : CleanableOf) → IsHere m → BeginsToWork (take_up_answer c) (cleaned m 0 s (Some c))
cleaned_begins m s c here =
    elim (is_spent c.state) as (λ b. BeginsToWork (cond b AlreadyDone (Job c.action c.work))
    (cond b m (with_call (taken_up m 0 s c) 0 None (CallJob c.action)))) [
      | true ↦ inr (inl refl, here)
      | false ↦ inl (
        c.action,
        c.work,
        refl,
        called (taken_up m 0 s c).mutators None (CallJob c.action) Free
            (taken_up_stays Free m 0 s c here),
      )
    ]

slot_begins : (m : Machine) (s : ℕ) (answer : Answer) (c : Option CleanableOf) → IsHere m → option_map take_up_answer c ≡ Some answer
    → BeginsToWork answer (cleaned m 0 s c)
slot_begins m s answer None here e = no_some answer e
slot_begins m s answer (Some c) here e =
    subst (λ a. BeginsToWork a (cleaned m 0 s (Some c))) (some_same _ answer e) (cleaned_begins m s c here)

work_begins : (m : Machine) (o : Option ℕ) (answer : Answer) → IsHere m
    → option_map take_up_answer (option_and_then (cleanable_at m) o) ≡ Some answer
    → BeginsToWork answer (on o (λ s. cleaned m 0 s (cleanable_at m s)) m)
work_begins m None answer here e = no_some answer e
work_begins m (Some s) answer here e = slot_begins m s answer (cleanable_at m s) here e

-- what is said of a machine after the ask is said of the entry's as well, where the answer is no refusal
carried_work : (m : Machine) (ask : Ask) (answer : Answer) (fresh : List ℕ) → IsHere m → BeginsToWork answer (after m ask answer fresh)
    → BeginsToWork answer (carried m ask answer fresh)
carried_work m ask (Refused by) fresh here x = inr (inr (by, refl), here)
carried_work m ask a fresh here x = x

work_entry : (m : Machine) (ask : Ask) (answer : Answer) (chosen : Chosen) (o : Option ℕ)
    → ((c : Collected) → MayCollect m ask (Some c) → ⊥) → IsHere m
    → (Answers m ask None answer → option_map take_up_answer (option_and_then (cleanable_at m) o) ≡ Some answer)
    → after m ask answer chosen.fresh ≡ on o (λ s. cleaned m 0 s (cleanable_at m s)) m
    → IsLegal m (entry 0 ask answer chosen) → BeginsToWork answer (apply m (entry 0 ask answer chosen))
work_entry m ask answer chosen o never here answers is l = elim (comes m ask answer chosen l) [
  | inl c ↦ alone m ask answer chosen (BeginsToWork answer) never (λ n seen q. q)
      (λ a. carried_work m ask answer chosen.fresh here (subst (BeginsToWork answer) (sym is) (work_begins m o answer here (answers a)))) c
  | inr r ↦ inr (inr r, refused_stays Free m (entry 0 ask answer chosen) r.0 r.1 here)
]

-- the cleanable that a handle names, in two words
named_cleanable : (m : Machine) (o : Option ℕ) → option_and_then (cleanable_at m) o ≡ option_and_then as_cleanable
    (option_and_then (at m.objects) o)
named_cleanable m None = refl
named_cleanable m (Some s) = refl

pub clean_begins : (m : Machine) (h : ℕ) (answer : Answer) (chosen : Chosen) → IsHere m → IsLegal m (entry 0 (Clean 0 h) answer chosen)
    → BeginsToWork answer (apply m (entry 0 (Clean 0 h) answer chosen))
clean_begins m h answer chosen here l =
    work_entry m (Clean 0 h) answer chosen (slot_named m 0 h) (λ x g. no_need m g.0) here
    (λ a. ap (option_map take_up_answer) (named_cleanable m (slot_named m 0 h)) ∙ a) refl l

pub close_begins : (m : Machine) (h : ℕ) (answer : Answer) (chosen : Chosen) → IsHere m → IsLegal m (entry 0 (Close 0 h) answer chosen)
    → BeginsToWork answer (apply m (entry 0 (Close 0 h) answer chosen))
close_begins m h answer chosen here l =
    work_entry m (Close 0 h) answer chosen (cleanable_of_guard m 0 h) (λ x g. no_need m g.0) here (λ a. a) refl l

-- ---- Calls that end

-- what an end leaves, where it is not refused
ended_here : (m : Machine) (ask : Ask) (answer : Answer) (chosen : Chosen) → ((c : Collected) → MayCollect m ask (Some c) → ⊥)
    → (IsTrue (not (has_room m (cells_needed ask))) → ⊥) → (IsTrue (not (is_end ask)) → ⊥)
    → refusal m ask ≡ None → (Answers m ask None answer → IsHere (carried m ask answer chosen.fresh))
    → IsLegal m (entry 0 ask answer chosen) → IsHere (apply m (entry 0 ask answer chosen))
ended_here m ask answer chosen never small end allowed h l =
    alone m ask answer chosen IsHere never (λ n seen q. q) h (ends m ask answer chosen small end allowed l)

call_answered : (m : Machine) (outcome : CallOutcome) (fresh : List ℕ) → IsHere (on (guard_fenced m 0) (checked_in m 0) m)
    → IsHere (carried m (CheckIn 0 outcome) (call_answer outcome) fresh)
call_answered m (GotData bytes) fresh h = h
call_answered m (GotWrote n) fresh h = h
call_answered m (GotFailed fault) fresh h = h

pub check_in_ends : (m : Machine) (outcome : CallOutcome) (answer : Answer) (chosen : Chosen) (rid : ℕ) → IsWellFormed m
    → IsCallOf m 0 (CallOut rid)
    → IsLegal m (entry 0 (CheckIn 0 outcome) answer chosen) → IsHere (apply m (entry 0 (CheckIn 0 outcome) answer chosen))
check_in_ends m outcome answer chosen rid w h l =
    let x = out_ends m 0 h.0 rid w h.1 h.2 in
    let fenced = guard_on m 0 h.0 x.0 x.1 h.1 x.3.fence x.3.guard in
    let free : IsHere (on (guard_fenced m 0) (checked_in m 0) m) =
    subst (λ g. IsHere (on g (checked_in m 0) m)) (sym fenced) (called m.mutators None Free (CallOut rid) h) in
    ended_here m (CheckIn 0 outcome) answer chosen (λ x g. no_need m g.0) (no_need m) (both_ways false refl) (rw (h.1, h.2) refl)
    (λ a. subst (λ a. IsHere (carried m (CheckIn 0 outcome) a chosen.fresh)) (some_same _ answer a)
    (call_answered m outcome chosen.fresh free)) l

opened_here : (m : Machine) (g : GuardOf) (outcome : Outcome) (rid : ℕ) → IsCallOf m 0 (CallOpening rid) → IsHere (opened m 0 g outcome)
opened_here m g OutcomeOk rid h =
    given_stays Free (with_call (with_state m g.rid Idle) 0 None Free) (fence_of m 0) (called m.mutators None Free (CallOpening rid) h)
opened_here m g (Failed fault) rid h = called m.mutators None Free (CallOpening rid) h

open_answered : (m : Machine) (outcome : Outcome) (answer : Answer) (fresh : List ℕ) (s : Session) → at m.mutators 0 ≡ Some s
    → outcome_answer outcome (new_handle m 0) ≡ Some answer
    → IsHere (on (guard_fenced m 0) (λ g. opened m 0 g outcome) m) → IsHere (carried m (Opened 0 outcome) answer fresh)
open_answered m OutcomeOk answer fresh s there e h =
    let is : answer ≡ Handle (free_handle s) =
    some_same answer (Handle (free_handle s)) (sym e ∙ ap (option_map (λ s. Handle (free_handle s))) there) in
    subst (λ a. IsHere (carried m (Opened 0 OutcomeOk) a fresh)) (sym is) h
open_answered m (Failed fault) answer fresh s there e h =
    subst (λ a. IsHere (carried m (Opened 0 (Failed fault)) a fresh)) (some_same _ answer e) h

pub opened_ends : (m : Machine) (outcome : Outcome) (answer : Answer) (chosen : Chosen) (rid : ℕ) → IsWellFormed m
    → IsCallOf m 0 (CallOpening rid)
    → IsLegal m (entry 0 (Opened 0 outcome) answer chosen) → IsHere (apply m (entry 0 (Opened 0 outcome) answer chosen))
opened_ends m outcome answer chosen rid w h l =
    let x = opening_ends m 0 h.0 rid w h.1 h.2 in
    let fenced = guard_on m 0 h.0 x.0 x.1 h.1 x.3.fence x.3.guard in
    let free : IsHere (on (guard_fenced m 0) (λ g. opened m 0 g outcome) m) =
    subst (λ g. IsHere (on g (λ g. opened m 0 g outcome) m)) (sym fenced) (opened_here m x.1 outcome rid h) in
    ended_here m (Opened 0 outcome) answer chosen (λ x g. no_need m g.0) (no_need m) (both_ways false refl) (rw (h.1, h.2) refl)
    (λ a. open_answered m outcome answer chosen.fresh h.0 h.1 a free) l

finish_answered : (m : Machine) (action : ℕ) (outcome : Outcome) (answer : Answer) (fresh : List ℕ)
    → outcome_answer outcome (Some Done) ≡ Some answer
    → IsHere (on (job_of m action) (λ job. free_again (finished m job outcome) 0) m)
    → IsHere (carried m (Finish 0 action outcome) answer fresh)
finish_answered m action OutcomeOk answer fresh e h =
    subst (λ a. IsHere (carried m (Finish 0 action OutcomeOk) a fresh)) (some_same _ answer e) h
finish_answered m action (Failed fault) answer fresh e h =
    subst (λ a. IsHere (carried m (Finish 0 action (Failed fault)) a fresh)) (some_same _ answer e) h

pub finish_ends : (m : Machine) (action : ℕ) (outcome : Outcome) (answer : Answer) (chosen : Chosen) → IsWellFormed m
    → IsCallOf m 0 (CallJob action)
    → IsLegal m (entry 0 (Finish 0 action outcome) answer chosen) → IsHere (apply m (entry 0 (Finish 0 action outcome) answer chosen))
finish_ends m action outcome answer chosen w h l =
    let job = (subst (FitsItsCall m 0 h.0) h.2 (w.calls.calls 0 h.0 h.1)).1 in
    let free : IsHere (on (job_of m action) (λ job. free_again (finished m job outcome) 0) m) =
    subst (λ o. IsHere (on o (λ job. free_again (finished m job outcome) 0) m)) (sym job.1)
    (called (finished m job.0 outcome).mutators None Free (CallJob action) (finished_stays (CallJob action) m job.0 outcome h)) in
    ended_here m (Finish 0 action outcome) answer chosen (λ x g. no_need m g.0) (no_need m) (both_ways false refl)
    (rw (h.1, job.1, job.2) refl)
    (λ a. finish_answered m action outcome answer chosen.fresh a free) l

-- ---- The first entry, and the last

has_place : (m : Machine) (table : Table Session) → refusal (record m { mutators = table }) (Join 0) ≡ None → 0 < length table
has_place m [] e = no_some _ (sym e)
has_place m (s ∷ table) e = omega arith

joined_here : (m : Machine) (answer : Answer) (fresh : List ℕ) → 0 < length m.mutators → Some Done ≡ Some answer
    → IsHere (carried m (Join 0) answer fresh)
joined_here m answer fresh w e = subst (λ a. IsHere (carried m (Join 0) a fresh)) (some_same Done answer e)
    (fresh_session, set_same m.mutators 0 (Some fresh_session) w, refl)

-- a join that is not refused
pub joins : (m : Machine) (answer : Answer) (chosen : Chosen) → refusal m (Join 0) ≡ None → (answer ≡ Refused NoMemory → ⊥)
    → IsLegal m (entry 0 (Join 0) answer chosen)
    → (answer ≡ Done) × IsHere (apply m (entry 0 (Join 0) answer chosen))
joins m answer chosen free memory (carried_out c) =
    alone m (Join 0) answer chosen (λ n. (answer ≡ Done) × IsHere n) (λ x g. no_need m g.0) (λ n seen q. q)
    (λ a. (sym (some_same Done answer a), joined_here m answer chosen.fresh (has_place m m.mutators free) a)) c
joins m answer chosen free memory (refused r) = no_some r.by (sym free ∙ r.first)
joins m answer chosen free memory (heap_full r) = absurd (no_need m r.no_room)
joins m answer chosen free memory (out_of_memory r) = absurd (memory r.answers)

pub leaves : (m : Machine) (answer : Answer) (chosen : Chosen) → IsHere m → IsLegal m (entry 0 (Leave 0) answer chosen) → answer ≡ Done
leaves m answer chosen h l =
    let c = ends m (Leave 0) answer chosen (no_need m) (both_ways false refl) (rw (h.1, h.2) refl) l in
    sym (some_same Done answer c.answers)
