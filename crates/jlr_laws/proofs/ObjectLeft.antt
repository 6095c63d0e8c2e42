-- What a collection leaves of one object.
use Rattle.std.proofs.Common.{◌≡◌, ℕ, suc, Bool, true, false, cond, not, ◌&&◌, List, [], ◌∷◌, ◌++◌, length, refl, sym, ◌∙◌, ap, subst}
use Rattle.std.proofs.Common.{◌⊎◌, inl, inr, Option, Some, None, option_map, option_and_then, is_some, option_to_list}
use Rattle.std.proofs.lemmas.Bool.{both_ways, cases_Bool, cond-true, cond-false, and_parts, and_from, not-true, not_from_false}
use Rattle.jlr_machine.specs.declared.object.Contents.{Contents}
use Rattle.jlr_machine.specs.declared.object.Object.{Object}
use Rattle.jlr_machine.specs.declared.object.Object.TheVariants.{Plain, Reference, Queue, Cleaner, Cleanable, Guard}
use Rattle.jlr_machine.specs.declared.object.Reference.{Reference as ReferenceOf}
use Rattle.jlr_machine.specs.declared.object.Cleanable.{Cleanable as CleanableOf}
use Rattle.jlr_machine.specs.declared.object.Guard.{Guard as GuardOf}
use Rattle.jlr_machine.specs.declared.object.RefState.{RefState}
use Rattle.jlr_machine.specs.declared.object.RefState.TheVariants.{Fresh, Pending, Queued, Removed}
use Rattle.jlr_machine.specs.declared.object.CleanState.{CleanState}
use Rattle.jlr_machine.specs.declared.object.CleanState.TheVariants.{Armed, Pending as PendingClean, Lined, Spent}
use Rattle.jlr_machine.specs.Objects.{Heap, ◌∋◌, ◌∈◌, is_distinct, as_reference, as_cleanable, is_fresh, is_armed}
use Rattle.jlr_machine.specs.Objects.{any_referent, is_spent, is_unqueued}
use Rattle.jlr_machine.specs.Edges.{strong_edges, is_own_root}
use Rattle.jlr_machine.specs.Collection.{is_ready, referent_if_kept, left_of, places_left}
use Rattle.jlr_machine.specs.WellFormed.{FitsItsState, is_unspent_place}
use Rattle.jlr_laws.proofs.Sets.{in_front}
use Rattle.jlr_laws.proofs.Clearing.{in_append, in_right, same_some}
use Rattle.jlr_laws.proofs.Frames.{no_some, some_same, fresh_unqueued}
use Rattle.jlr_laws.proofs.ObjectsKept.{IsPendingKind}

-- ---- Lists

pub distinct_append : (xs ys : List ℕ) → is_distinct xs ≡ true → is_distinct ys ≡ true → ((s : ℕ) → s ∈ xs → s ∈ ys → ⊥)
    → is_distinct (xs ++ ys) ≡ true
distinct_append [] ys d e h = e
distinct_append (x ∷ xs) ys d e h =
    let p = and_parts (not (xs ∋ x)) (is_distinct xs) d in
    and_from (not ((xs ++ ys) ∋ x)) (is_distinct (xs ++ ys))
    (elim (cases_Bool ((xs ++ ys) ∋ x)) [
      | inl m ↦ elim (in_append x xs ys m) [
        | inl a ↦ absurd (both_ways (xs ∋ x) (not-true (xs ∋ x) p.0) a)
        | inr b ↦ absurd (h x (in_front x x xs refl) b)
      ]
      | inr n ↦ not_from_false ((xs ++ ys) ∋ x) n
    ])
    (distinct_append xs ys p.1 e (λ s a b. h s (in_right s (x ∷ []) xs a) b))

-- ---- One object that is left

module _ (kept : List ℕ) (b : Bool) where
  abbrev pub left_reference : ReferenceOf → ReferenceOf
  left_reference r = record r { referent = referent_if_kept kept r.referent; state = cond b Pending r.state }

  abbrev pub left_cleanable : CleanableOf → CleanableOf
  left_cleanable c = record c { referent = referent_if_kept kept c.referent; state = cond b PendingClean c.state }

  pub reference_before : (o : Object) (r : ReferenceOf) → Reference r ≡ left_of kept b o → (x : ReferenceOf) × (o ≡ Reference x)
      × (r ≡ left_reference x)
  reference_before (Plain fields) r e = absurd (cc e)
  reference_before (Reference x) r e = (x, refl, some_same r (left_reference x) (ap as_reference e))
  reference_before (Queue members) r e = absurd (cc e)
  reference_before Cleaner r e = absurd (cc e)
  reference_before (Cleanable c) r e = absurd (cc e)
  reference_before (Guard g) r e = absurd (cc e)

  pub cleanable_before : (o : Object) (r : CleanableOf) → Cleanable r ≡ left_of kept b o → (x : CleanableOf) × (o ≡ Cleanable x)
      × (r ≡ left_cleanable x)
  cleanable_before (Plain fields) r e = absurd (cc e)
  cleanable_before (Reference x) r e = absurd (cc e)
  cleanable_before (Queue members) r e = absurd (cc e)
  cleanable_before Cleaner r e = absurd (cc e)
  cleanable_before (Cleanable x) r e = (x, refl, some_same r (left_cleanable x) (ap as_cleanable e))
  cleanable_before (Guard g) r e = absurd (cc e)

  pub queue_before : (o : Object) (r : List ℕ) → Queue r ≡ left_of kept b o → o ≡ Queue r
  queue_before (Plain fields) r e = absurd (cc e)
  queue_before (Reference x) r e = absurd (cc e)
  queue_before (Queue members) r e = sym e
  queue_before Cleaner r e = absurd (cc e)
  queue_before (Cleanable x) r e = absurd (cc e)
  queue_before (Guard g) r e = absurd (cc e)

  pub guard_before : (o : Object) (r : GuardOf) → Guard r ≡ left_of kept b o → o ≡ Guard r
  guard_before (Plain fields) r e = absurd (cc e)
  guard_before (Reference x) r e = absurd (cc e)
  guard_before (Queue members) r e = absurd (cc e)
  guard_before Cleaner r e = absurd (cc e)
  guard_before (Cleanable x) r e = absurd (cc e)
  guard_before (Guard g) r e = sym e

  pub plain_before : (o : Object) (r : Contents) → Plain r ≡ left_of kept b o → o ≡ Plain r
  plain_before (Plain fields) r e = sym e
  plain_before (Reference x) r e = absurd (cc e)
  plain_before (Queue members) r e = absurd (cc e)
  plain_before Cleaner r e = absurd (cc e)
  plain_before (Cleanable x) r e = absurd (cc e)
  plain_before (Guard g) r e = absurd (cc e)

  -- one that becomes Pending was Fresh, and so keeps its edge to its queue
  pub same_ahead : (queue : Option ℕ) (old : RefState) → (b ≡ true → is_fresh old ≡ true)
      → is_unqueued (cond b Pending old) ≡ is_unqueued old
  same_ahead queue old h = elim b as (λ c. (c ≡ true → is_fresh old ≡ true) → is_unqueued (cond c Pending old) ≡ is_unqueued old) [
    | true ↦
        λ h. sym (fresh_unqueued old (h refl))
    | false ↦ λ h. refl
  ] h

  pub strong_same : (o : Object) → (b ≡ true → is_ready o ≡ true) → strong_edges (left_of kept b o) ≡ strong_edges o
  strong_same (Plain fields) h = refl
  strong_same (Reference x) h = ap (λ u. option_to_list (cond u x.queue None))
      (same_ahead x.queue x.state (λ e. (and_parts (is_fresh x.state) (is_some x.queue) (h e)).0))
  strong_same (Queue members) h = refl
  strong_same Cleaner h = refl
  strong_same (Cleanable x) h = refl
  strong_same (Guard g) h = refl

  pub referent_left : (o : Object) → any_referent (left_of kept b o) ≡ referent_if_kept kept (any_referent o)
  referent_left (Plain fields) = refl
  referent_left (Reference x) = refl
  referent_left (Queue members) = refl
  referent_left Cleaner = refl
  referent_left (Cleanable x) = refl
  referent_left (Guard g) = refl

pub kept_referent : (kept : List ℕ) (y : Option ℕ) (x : ℕ) → referent_if_kept kept y ≡ Some x → (y ≡ Some x) × (x ∈ kept)
kept_referent kept None x e = no_some x e
kept_referent kept (Some y) x e = elim (cases_Bool (kept ∋ y)) [
  | inl m ↦
      let same : y ≡ x = same_some y x (sym (cond-true (kept ∋ y) (Some y) None m) ∙ e) in
      (ap (λ z. Some z) same, subst (λ z. z ∈ kept) same m)
  | inr n ↦ no_some x (sym (cond-false (kept ∋ y) (Some y) None n) ∙ e)
]

pub keeps_referent_in : (kept : List ℕ) (y : Option ℕ) (x : ℕ) → y ≡ Some x → x ∈ kept → referent_if_kept kept y ≡ Some x
keeps_referent_in kept y x e m = ap (referent_if_kept kept) e ∙ cond-true (kept ∋ x) (Some x) None m

pub loses_referent_out : (kept : List ℕ) (y : Option ℕ) (x : ℕ) → y ≡ Some x → (kept ∋ x) ≡ false → referent_if_kept kept y ≡ None
loses_referent_out kept y x e n = ap (referent_if_kept kept) e ∙ cond-false (kept ∋ x) (Some x) None n

abbrev pub state_in : Option Object → Option RefState
state_in o = option_and_then (λ r. Some r.state) (option_and_then as_reference o)

abbrev pub clean_state_in : Option Object → Option CleanState
clean_state_in o = option_and_then (λ c. Some c.state) (option_and_then as_cleanable o)

-- what is not handed over keeps its state
pub quiet_state : (kept : List ℕ) (o : Option Object) → state_in (option_map (left_of kept false) o) ≡ state_in o
quiet_state kept None = refl
quiet_state kept (Some (Plain fields)) = refl
quiet_state kept (Some (Reference r)) = refl
quiet_state kept (Some (Queue members)) = refl
quiet_state kept (Some Cleaner) = refl
quiet_state kept (Some (Cleanable c)) = refl
quiet_state kept (Some (Guard g)) = refl

pub quiet_clean_state : (kept : List ℕ) (o : Option Object) → clean_state_in (option_map (left_of kept false) o) ≡ clean_state_in o
quiet_clean_state kept None = refl
quiet_clean_state kept (Some (Plain fields)) = refl
quiet_clean_state kept (Some (Reference r)) = refl
quiet_clean_state kept (Some (Queue members)) = refl
quiet_clean_state kept (Some Cleaner) = refl
quiet_clean_state kept (Some (Cleanable c)) = refl
quiet_clean_state kept (Some (Guard g)) = refl

-- what is handed over becomes Pending
pub handed_kind : (kept : List ℕ) (o : Object) → is_ready o ≡ true
    → IsPendingKind (state_in (Some (left_of kept true o))) (clean_state_in (Some (left_of kept true o)))
handed_kind kept (Plain fields) e = absurd (both_ways false refl e)
handed_kind kept (Reference r) e = inl refl
handed_kind kept (Queue members) e = absurd (both_ways false refl e)
handed_kind kept Cleaner e = absurd (both_ways false refl e)
handed_kind kept (Cleanable c) e = inr (inr (inr (inl refl)))
handed_kind kept (Guard g) e = absurd (both_ways false refl e)

-- what is pending already is not ready
pub pending_unready : (o : Object) → IsPendingKind (state_in (Some o)) (clean_state_in (Some o)) → is_ready o ≡ false
pending_unready (Plain fields) k = refl
pending_unready (Reference r) (inl e) = ap (λ s. is_fresh s && is_some r.queue) (some_same r.state Pending e)
pending_unready (Reference r) (inr (inl e)) = ap (λ s. is_fresh s && is_some r.queue) (some_same r.state Queued e)
pending_unready (Reference r) (inr (inr (inl e))) = ap (λ s. is_fresh s && is_some r.queue) (some_same r.state Removed e)
pending_unready (Reference r) (inr (inr (inr (inl e)))) = no_some PendingClean e
pending_unready (Reference r) (inr (inr (inr (inr e)))) = no_some Spent e
pending_unready (Queue members) k = refl
pending_unready Cleaner k = refl
pending_unready (Cleanable c) (inl e) = no_some Pending e
pending_unready (Cleanable c) (inr (inl e)) = no_some Queued e
pending_unready (Cleanable c) (inr (inr (inl e))) = no_some Removed e
pending_unready (Cleanable c) (inr (inr (inr (inl e)))) = ap is_armed (some_same c.state PendingClean e)
pending_unready (Cleanable c) (inr (inr (inr (inr e)))) = ap is_armed (some_same c.state Spent e)
pending_unready (Guard g) k = refl

pub lined_unready : (o : Object) → (clean_state_in (Some o) ≡ Some Lined) ⊎ (clean_state_in (Some o) ≡ Some Spent) → is_ready o ≡ false
lined_unready (Plain fields) k = refl
lined_unready (Reference r) (inl e) = no_some Lined e
lined_unready (Reference r) (inr e) = no_some Spent e
lined_unready (Queue members) k = refl
lined_unready Cleaner k = refl
lined_unready (Cleanable c) (inl e) = ap is_armed (some_same c.state Lined e)
lined_unready (Cleanable c) (inr e) = ap is_armed (some_same c.state Spent e)
lined_unready (Guard g) k = refl

pub unspent_same_false : (kept : List ℕ) (o : Option Object) → is_unspent_place (option_map (left_of kept false) o) ≡ is_unspent_place o
unspent_same_false kept None = refl
unspent_same_false kept (Some (Plain fields)) = refl
unspent_same_false kept (Some (Reference r)) = refl
unspent_same_false kept (Some (Queue members)) = refl
unspent_same_false kept (Some Cleaner) = refl
unspent_same_false kept (Some (Cleanable c)) = refl
unspent_same_false kept (Some (Guard g)) = refl

pub armed_is : (s : CleanState) → is_armed s ≡ true → s ≡ Armed
armed_is Armed e = refl
armed_is PendingClean e = absurd (both_ways false refl e)
armed_is Lined e = absurd (both_ways false refl e)
armed_is Spent e = absurd (both_ways false refl e)

pub unspent_same_true : (kept : List ℕ) (o : Object) → is_ready o ≡ true
    → is_unspent_place (Some (left_of kept true o)) ≡ is_unspent_place (Some o)
unspent_same_true kept (Plain fields) e = refl
unspent_same_true kept (Reference r) e = refl
unspent_same_true kept (Queue members) e = refl
unspent_same_true kept Cleaner e = refl
unspent_same_true kept (Cleanable c) e = ap (λ s. not (is_spent s)) (sym (armed_is c.state e))
unspent_same_true kept (Guard g) e = refl

pub unspent_is : (o : Option Object) → is_unspent_place o ≡ true → (c : CleanableOf) × (o ≡ Some (Cleanable c)) × (is_spent c.state ≡ false)
unspent_is None e = absurd (both_ways false refl e)
unspent_is (Some (Plain fields)) e = absurd (both_ways false refl e)
unspent_is (Some (Reference r)) e = absurd (both_ways false refl e)
unspent_is (Some (Queue members)) e = absurd (both_ways false refl e)
unspent_is (Some Cleaner) e = absurd (both_ways false refl e)
unspent_is (Some (Cleanable c)) e = (c, refl, not-true (is_spent c.state) e)
unspent_is (Some (Guard g)) e = absurd (both_ways false refl e)

pub fits_left : (kept : List ℕ) (b : Bool) (r : ReferenceOf) (s : RefState) → FitsItsState r s → FitsItsState (left_reference kept b r) s
fits_left kept b r Fresh h = h
fits_left kept b r Pending h = (h.0, ap (referent_if_kept kept) h.1)
fits_left kept b r Queued h = (h.0, ap (referent_if_kept kept) h.1)
fits_left kept b r Removed h = (h.0, ap (referent_if_kept kept) h.1)

pub holds_somewhere : (o : Option Object) → is_own_root o ≡ true → is_some o ≡ true
holds_somewhere None e = e
holds_somewhere (Some o) e = refl

pub length_left : (kept pending : List ℕ) (n : ℕ) (heap : Heap) → length (places_left kept pending n heap) ≡ length heap
length_left kept pending n [] = refl
length_left kept pending n (o ∷ places) = ap suc (length_left kept pending (suc n) places)
