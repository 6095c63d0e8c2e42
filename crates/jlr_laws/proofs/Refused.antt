-- What a refused entry is refused with, and what it leaves.
use Rattle.std.proofs.Common.{◌≡◌, inl, inr, Bool, true, false, not, cond, find, List, [], ◌∷◌, ℕ, refl, sym, ◌∙◌, ap, subst, Option, Some}
use Rattle.std.proofs.Common.{None, option_map, option_and_then, IsTrue, suc, arith, lit<}
use Rattle.std.specs.List.{Contains}
use Rattle.std.proofs.lemmas.Bool.{both_ways}
use Rattle.jlr_types.specs.declared.FieldValue.{FieldValue}
use Rattle.jlr_types.specs.declared.FieldValue.TheVariants.{Int as IntValue, Ref as RefValue}
use Rattle.jlr_types.specs.declared.Refusal.{Refusal}
use Rattle.jlr_types.specs.declared.Refusal.TheVariants.{NoMemory, HeapFull}
use Rattle.jlr_machine.specs.declared.object.Cleanable.{Cleanable as CleanableOf}
use Rattle.jlr_machine.specs.declared.machine.Machine.{Machine}
use Rattle.jlr_machine.specs.declared.ask.Outcome.{Outcome}
use Rattle.jlr_machine.specs.declared.ask.Outcome.TheVariants.{Ok as OutcomeOk, Failed}
use Rattle.jlr_machine.specs.declared.ask.CallOutcome.{CallOutcome}
use Rattle.jlr_machine.specs.declared.ask.CallOutcome.TheVariants.{Data as GotData, Wrote as GotWrote, Failed as GotFailed}
use Rattle.jlr_machine.specs.declared.ask.Ask.{Ask}
use Rattle.jlr_machine.specs.declared.ask.Ask.TheVariants.{Join, New, Get, Int, Dup, MakeRef, Deref, Refers}
use Rattle.jlr_machine.specs.declared.ask.Ask.TheVariants.{Enqueue, Enqueued, MakeQueue, Poll, Remove, MakeCleaner, Register, Clean}
use Rattle.jlr_machine.specs.declared.ask.Ask.TheVariants.{Prepare, Opened, CheckOut, CheckIn, Close, Finish, Find}
use Rattle.jlr_machine.specs.declared.ask.Ask.TheVariants.{HandOver, TakeUp, Collect, Array}
use Rattle.jlr_machine.specs.declared.ask.Answer.{Answer}
use Rattle.jlr_machine.specs.declared.ask.Answer.TheVariants.{Refused, Handle, AlreadyDone, Job}
use Rattle.jlr_machine.specs.declared.entry.Collected.{Collected}
use Rattle.jlr_machine.specs.Chosen.{Chosen}
use Rattle.jlr_machine.specs.declared.entry.Entry.{Entry}
use Rattle.jlr_machine.specs.Objects.{at, is_spent}
use Rattle.jlr_machine.specs.Lookups.{cleanable_at, field_named}
use Rattle.jlr_machine.specs.Refusals.{applies, listed, cells_needed, given}
use Rattle.jlr_machine.specs.Calls.{reply, new_handle, handle_given, number_in, outcome_answer, call_answer, take_up_answer}
use Rattle.jlr_machine.specs.Calls.{hand_over_answer, line_answer, from_lined}
use Rattle.jlr_machine.specs.Collection.{after_collection}
use Rattle.jlr_machine.specs.Run.{IsCarriedOut, Answers, carried, with_collection, no_choice, now_seen, has_room, apply}
use Rattle.jlr_machine.specs.Run.IsLegal.{carried_out, refused, heap_full, out_of_memory}
use Rattle.jlr_laws.specs.Laws.{IsUpToDate, ListsAreInOrder, RefusalsAreListed, RefusalChangesNothing, FullHeapLeavesItsCollection}
use Rattle.jlr_laws.proofs.Frames.{no_some, some_same}
use Rattle.jlr_laws.proofs.LegalKept.{no_need}

-- ---- The lists are in the one order

pub lists_are_in_order : ListsAreInOrder
lists_are_in_order (Join k) = refl
lists_are_in_order asked = refl

-- ---- No answer of an ask that is carried out is a refusal

abbrev pub is_refusal : Answer → Bool
is_refusal (Refused by) = true
is_refusal _ = false

-- an option that holds no refusal
abbrev pub HoldsNoRefusal : Option Answer → Type 0
HoldsNoRefusal o = (a : Answer) → o ≡ Some a → is_refusal a ≡ false

from_some : (x : Answer) → is_refusal x ≡ false → HoldsNoRefusal (Some x)
from_some x h a e = ap is_refusal (sym (some_same x a e)) ∙ h

from_map : {A : Type 0} (f : A → Answer) → ((x : A) → is_refusal (f x) ≡ false) → (o : Option A) → HoldsNoRefusal (option_map f o)
from_map f h None a e = no_some a e
from_map f h (Some x) a e = from_some (f x) (h x) a e

from_none : HoldsNoRefusal None
from_none a e = no_some a e

gives_handle : (m : Machine) (k : ℕ) → HoldsNoRefusal (new_handle m k)
gives_handle m k = from_map _ (λ s. refl) (at m.mutators k)

gives_object : (m : Machine) (k : ℕ) (o : Option ℕ) → HoldsNoRefusal (handle_given m k o)
gives_object m k None = from_some (Handle 0) refl
gives_object m k (Some s) = gives_handle m k

gives_number : (o : Option FieldValue) → HoldsNoRefusal (option_and_then number_in o)
gives_number None = from_none
gives_number (Some (IntValue n)) = from_some _ refl
gives_number (Some (RefValue s)) = from_none

gives_outcome : (outcome : Outcome) (success : Option Answer) → HoldsNoRefusal success → HoldsNoRefusal (outcome_answer outcome success)
gives_outcome OutcomeOk success h = h
gives_outcome (Failed fault) success h = from_some _ refl

gives_call : (outcome : CallOutcome) → is_refusal (call_answer outcome) ≡ false
gives_call (GotData bytes) = refl
gives_call (GotWrote n) = refl
gives_call (GotFailed fault) = refl

gives_job : (c : CleanableOf) → is_refusal (take_up_answer c) ≡ false
gives_job c = elim (is_spent c.state) as (λ b. is_refusal (cond b AlreadyDone (Job c.action c.work)) ≡ false) [ true ↦ refl | false ↦ refl ]

gives_handed : (m : Machine) (slots : List ℕ) → HoldsNoRefusal (hand_over_answer m slots)
gives_handed m [] = from_some _ refl
gives_handed m (s ∷ slots) = from_map _ (λ o. refl) (at m.objects s)

gives_lined : (m : Machine) (slots : List ℕ) → HoldsNoRefusal (line_answer m slots)
gives_lined m [] = from_some _ refl
gives_lined m (s ∷ slots) = from_map take_up_answer gives_job (cleanable_at m s)

pub gives_no_refusal : (m : Machine) (ask : Ask) → HoldsNoRefusal (reply m ask)
gives_no_refusal m (New k layout) = gives_handle m k
gives_no_refusal m (Get k h f) = gives_object m k (given m (Get k h f))
gives_no_refusal m (Int k h f) = gives_number (field_named m k h f)
gives_no_refusal m (Dup k h) = gives_object m k (given m (Dup k h))
gives_no_refusal m (MakeRef k kind h q) = gives_handle m k
gives_no_refusal m (Deref k r) = gives_object m k (given m (Deref k r))
gives_no_refusal m (Refers k r h) = from_map _ (λ x. refl) _
gives_no_refusal m (Enqueue k r) = from_map _ (λ x. refl) _
gives_no_refusal m (Enqueued k r) = from_map _ (λ x. refl) _
gives_no_refusal m (MakeQueue k) = gives_handle m k
gives_no_refusal m (Poll k q) = gives_object m k (given m (Poll k q))
gives_no_refusal m (Remove k q) = gives_object m k (given m (Remove k q))
gives_no_refusal m (MakeCleaner k) = gives_handle m k
gives_no_refusal m (Register k d h note) = gives_handle m k
gives_no_refusal m (Clean k d) = from_map take_up_answer gives_job _
gives_no_refusal m (Prepare k) = from_none
gives_no_refusal m (Opened k outcome) = gives_outcome outcome (new_handle m k) (gives_handle m k)
gives_no_refusal m (CheckOut k h) = from_map _ (λ x. refl) _
gives_no_refusal m (CheckIn k outcome) = from_some _ (gives_call outcome)
gives_no_refusal m (Close k h) = from_map take_up_answer gives_job _
gives_no_refusal m (Finish by action outcome) = gives_outcome outcome _ (from_some _ refl)
gives_no_refusal m (Find k name) = gives_handle m k
gives_no_refusal m HandOver = gives_handed m m.pending
gives_no_refusal m TakeUp = gives_lined m (from_lined m m.line)
gives_no_refusal m Collect = from_none
gives_no_refusal m (Array k n) = gives_handle m k
gives_no_refusal m asked = from_some _ refl

no_refusal : (m : Machine) (ask : Ask) (c : Option Collected) (a : Answer) → Answers m ask c a → is_refusal a ≡ false
no_refusal m (Prepare k) chosen_ answer_ proof_ = ap is_refusal proof_.3
no_refusal m Collect chosen_ answer_ proof_ = ap is_refusal proof_
no_refusal m asked chosen_ answer_ proof_ = gives_no_refusal m asked answer_ proof_

-- ---- A legal refusal is listed

found_in : (p : Refusal → Bool) (by : Refusal) (xs : List Refusal) → find p xs ≡ Some by → Contains xs by
found_in p by [] e = no_some by e
found_in p by (x ∷ xs) e =
    elim (p x) as (λ b. cond b (Some x) (find p xs) ≡ Some by → Contains (x ∷ xs) by) [
      | true ↦ λ e. (0, omega arith, some_same x by e)
      | false ↦ λ e. let r = found_in p by xs e in (suc r.0, omega (arith, r.1), r.2)
    ] e

full_listed : (m : Machine) (ask : Ask) → IsTrue (not (has_room m (cells_needed ask))) → Contains (listed ask) HeapFull
full_listed m (New k layout) proof_ = (3, lit< tt, refl)
full_listed m (MakeRef k kind h q) proof_ = (6, lit< tt, refl)
full_listed m (MakeQueue k) proof_ = (3, lit< tt, refl)
full_listed m (MakeCleaner k) proof_ = (3, lit< tt, refl)
full_listed m (Register k d h note) proof_ = (7, lit< tt, refl)
full_listed m (Prepare k) proof_ = (5, lit< tt, refl)
full_listed m (Array k n) proof_ = (3, lit< tt, refl)
full_listed m asked proof_ = absurd (no_need m proof_)

same_refusal : (a : Answer) (b by : Refusal) → a ≡ Refused b → a ≡ Refused by → b ≡ by
same_refusal a b by e f = let g : Refused b ≡ Refused by = sym e ∙ f in cc g

never_carried : (m : Machine) (e : Entry) (by : Refusal) → IsCarriedOut m e → e.answer ≡ Refused by → ⊥
never_carried m e by c f = both_ways (is_refusal e.answer)
    (no_refusal (with_collection m e.choice.collected) e.ask e.choice.collected e.answer c.answers) (ap is_refusal f)

pub refusals_are_listed : RefusalsAreListed
refusals_are_listed m e by (carried_out c) f = absurd (never_carried m e by c f)
refusals_are_listed m e by (refused r) f = inl (subst (Contains (listed e.ask)) (same_refusal e.answer r.by by r.answers f)
    (found_in (applies m e.ask) r.by (listed e.ask) r.first))
refusals_are_listed m e by (heap_full r) f =
    inl (subst (Contains (listed e.ask)) (same_refusal e.answer HeapFull by r.answers f) (full_listed m e.ask r.no_room))
refusals_are_listed m e by (out_of_memory r) f = inr (sym (same_refusal e.answer NoMemory by r.answers f), r.no_end)

-- ---- What a refused entry leaves

unchanged : (m : Machine) (e : Entry) (by : Refusal) → IsUpToDate m → e.answer ≡ Refused by → e.choice ≡ no_choice → apply m e ≡ m
unchanged m e by up_to_date a n =
    let same : carried (with_collection m e.choice.collected) e.ask e.answer e.choice.fresh ≡ m =
    ap (λ (c : Chosen). carried (with_collection m c.collected) e.ask e.answer c.fresh) n ∙ ap (λ a. carried m e.ask a []) a in
    ap {A = Machine} {B = Machine} (λ n. record n { seen = now_seen n }) same
    ∙ ap {A = List ℕ} {B = Machine} (λ l. record m { seen = l }) (sym up_to_date)

pub refusal_changes_nothing : RefusalChangesNothing
refusal_changes_nothing m e by up_to_date (carried_out c) f d = absurd (never_carried m e by c f)
refusal_changes_nothing m e by up_to_date (refused r) f d = unchanged m e by up_to_date f r.nothing
refusal_changes_nothing m e by up_to_date (heap_full r) f d = absurd (d (sym (same_refusal e.answer HeapFull by r.answers f)))
refusal_changes_nothing m e by up_to_date (out_of_memory r) f d = unchanged m e by up_to_date f r.nothing

-- a full heap refuses by no other case
not_listed_full : (m : Machine) (ask : Ask) → applies m ask HeapFull ≡ false
not_listed_full m (Join k) = refl
not_listed_full m asked = refl

holds_found : (p : Refusal → Bool) (by : Refusal) (xs : List Refusal) → find p xs ≡ Some by → p by ≡ true
holds_found p by [] e = no_some by e
holds_found p by (x ∷ xs) e =
    elim (p x) as (λ b. p x ≡ b → cond b (Some x) (find p xs) ≡ Some by → p by ≡ true) [
      | true ↦ λ h e. ap p (sym (some_same x by e)) ∙ h
      | false ↦ λ h e. holds_found p by xs e
    ] refl e

pub full_heap_leaves : FullHeapLeavesItsCollection
full_heap_leaves m e (carried_out c) f = absurd (never_carried m e HeapFull c f)
full_heap_leaves m e (refused r) f =
    absurd (both_ways (applies m e.ask HeapFull) (not_listed_full m e.ask)
    (ap (applies m e.ask) (sym (same_refusal e.answer r.by HeapFull r.answers f))
    ∙ holds_found (applies m e.ask) r.by (listed e.ask) r.first))
full_heap_leaves m e (heap_full r) f =
    let n = after_collection m r.clearing.kept r.clearing.pending in
    let same : carried (with_collection m e.choice.collected) e.ask e.answer e.choice.fresh ≡ n =
    ap (λ (c : Chosen). carried (with_collection m c.collected) e.ask e.answer c.fresh) r.collects ∙ ap (λ a. carried n e.ask a []) f in
    (r.clearing, r.full, ap {A = Machine} {B = Machine} (λ n. record n { seen = now_seen n }) same)
full_heap_leaves m e (out_of_memory r) f = absurd (cc (sym r.answers ∙ f))
