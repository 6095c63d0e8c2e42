-- What a collection comes down to: what is kept holds the base, is closed under strong edges, and reached inside.
use Rattle.std.proofs.Common.{◌≡◌, ℕ, Bool, true, false, ◌↔◌, List, refl, ◌∙◌, ap, ◌⊎◌, inl, inr, Some, None, is_some}
use Rattle.std.proofs.lemmas.Bool.{both_ways, cases_Bool, not-true, not_from_false, false_from_ne_true}
use Rattle.jlr_types.specs.declared.RefKind.{RefKind}
use Rattle.jlr_types.specs.declared.RefKind.TheVariants.{Soft, Weak, Phantom}
use Rattle.jlr_machine.specs.declared.object.Object.{Object}
use Rattle.jlr_machine.specs.declared.object.Object.TheVariants.{Plain, Reference, Queue, Cleaner, Cleanable, Guard}
use Rattle.jlr_machine.specs.Objects.{Heap, at, some_and, ◌∋◌, ◌∈◌, is_distinct, is_rising, any_referent}
use Rattle.jlr_machine.specs.Reachable.{IsReached, HasStrength}
use Rattle.jlr_machine.specs.Collection.{Clears, IsCollection, IsMadePending, without_referent, has_referent, is_ready}
use Rattle.jlr_machine.specs.Edges.Chain.{Strong, UpToSoft, UpToWeak, UpToPhantom}
use Rattle.jlr_laws.specs.Laws.{LosesReferent, only, IsCutOff}
use Rattle.jlr_laws.proofs.Paths.{AreEdgesWithin, along}
use Rattle.jlr_laws.proofs.Checks.{cleared, cleared-Clears}
use Rattle.jlr_laws.proofs.Clearing.{HasStrong, HasReferent, HasEdge, edge_gives, some_kind, strong_back, strong_forth, referent_back}
use Rattle.jlr_laws.proofs.Clearing.{referent_kept, referent_forth}
use Rattle.jlr_laws.proofs.Agree.{one_edge_more, carried, at_base, reached_wider, softly_weakly, kinds_apart, soft_phantom}
use Rattle.jlr_laws.proofs.Agree.{decided_reachable, drop_decided, within_after, IsDropped, IsOrWithout, once_more, stays, keeps_referent}
use Rattle.jlr_laws.proofs.Agree.{loses_referent, kept_is_live, soft_edge_back, soft_to_last, strong_to_soft}
use Rattle.jlr_laws.proofs.Only.{inside_back, inside_forth}

-- ---- A set that is decided, as a test

abbrev test_of : (C : ℕ → Type 0) → ((x : ℕ) → C x ⊎ ¬ (C x)) → ℕ → Bool
test_of C dec x = elim (dec x) [ inl yes_x ↦ true | inr no_x ↦ false ]

to_test : (C : ℕ → Type 0) (dec : (x : ℕ) → C x ⊎ ¬ (C x)) (x : ℕ) → C x → test_of C dec x ≡ true
to_test C dec x p =
    elim (dec x) as (λ d. elim d [ inl yes_x ↦ true | inr no_x ↦ false ] ≡ true) [ inl yes_x ↦ refl | inr no_x ↦ absurd (no_x p) ]

from_test : (C : ℕ → Type 0) (dec : (x : ℕ) → C x ⊎ ¬ (C x)) (x : ℕ) → test_of C dec x ≡ true → C x
from_test C dec x = elim (dec x) as (λ d. elim d [ inl yes_x ↦ true | inr no_x ↦ false ] ≡ true → C x) [
  | inl yes_x ↦ λ e. yes_x
  | inr no_x ↦
      λ e. absurd (both_ways false refl e)
]

abbrev cleared_of : RefKind → (C : ℕ → Type 0) → ((x : ℕ) → C x ⊎ ¬ (C x)) → Heap → Heap
cleared_of kind C dec heap = cleared kind (test_of C dec) heap

clears : (kind : RefKind) (C : ℕ → Type 0) (dec : (x : ℕ) → C x ⊎ ¬ (C x)) (heap : Heap) → Clears kind C heap (cleared_of kind C dec heap)
clears kind C dec heap = cleared-Clears kind C (test_of C dec) heap (to_test C dec) (from_test C dec)

-- ---- Who loses a referent

none_left : (o : Object) → is_some (any_referent (without_referent o)) ≡ false
none_left (Plain fields) = refl
none_left (Reference r) = refl
none_left (Queue members) = refl
none_left Cleaner = refl
none_left (Cleanable c) = refl
none_left (Guard g) = refl

-- where in the end a kept object has its referent exactly if that is kept
module _ (heap new : Heap) (kept : List ℕ) (keeps : (s x : ℕ) (o : Object) → at heap s ≡ Some o → any_referent o ≡ Some x → x ∈ kept
    → at new s ≡ Some o) (loses : (s x : ℕ) (o : Object) → s ∈ kept → at heap s ≡ Some o → any_referent o ≡ Some x → (kept ∋ x) ≡ false
    → at new s ≡ Some (without_referent o)) where
  to_handed : (s : ℕ) → LosesReferent heap kept s → IsMadePending heap new kept s
  to_handed s (m, (o, x), e, ready, f, n) = (
    m,
    ap (some_and is_ready) e ∙ ready,
    ap has_referent e ∙ ap is_some f,
    not_from_false (has_referent (at new s)) (ap has_referent (loses s x o m e f n) ∙ none_left o),
  )

  from_handed : (s : ℕ) → IsMadePending heap new kept s → LosesReferent heap kept s
  from_handed s h =
      elim (at heap s) as (λ p. at heap s ≡ p → some_and is_ready p ≡ true → has_referent p ≡ true → LosesReferent heap kept s) [
        | None ↦ λ e ready had. absurd (both_ways false refl had)
        | Some o ↦ λ e ready had.
            elim (any_referent o) as (λ r. any_referent o ≡ r → is_some r ≡ true → LosesReferent heap kept s) [
              | None ↦ λ f had. absurd (both_ways false refl had)
              | Some x ↦ λ f had. (
                h.0,
                (o, x),
                e,
                ready,
                f,
                false_from_ne_true (kept ∋ x)
                    (λ m. both_ways (has_referent (at new s)) (not-true (has_referent (at new s)) h.3)
                    (ap has_referent (keeps s x o e f m) ∙ ap is_some f)),
              )
            ] refl had
      ] refl h.1 h.2

module _ (heap : Heap) (B kept : List ℕ) (within : AreEdgesWithin UpToPhantom heap) (all_kept : (s : ℕ) → s ∈ B → s ∈ kept)
    (closed : (x y : ℕ) → x ∈ kept → HasStrong heap x y → y ∈ kept)
    (inside : (s : ℕ) → s ∈ kept → IsReached UpToSoft (only kept heap) B s) where
  abbrev Dropped : ℕ → Type 0
  Dropped s = IsDropped heap B kept s

  dropped : (s : ℕ) → Dropped s ⊎ ¬ (Dropped s)
  dropped = drop_decided heap B kept within

  abbrev soft_left : Heap
  soft_left = cleared_of Soft Dropped dropped heap

  soft_clears : Clears Soft Dropped heap soft_left
  soft_clears = clears Soft Dropped dropped heap

  within_soft : AreEdgesWithin UpToPhantom soft_left
  within_soft = within_after Soft Dropped heap soft_left soft_clears dropped within

  abbrev WeakSet : ℕ → Type 0
  WeakSet s = HasStrength Weak soft_left B s

  weak_set : (s : ℕ) → WeakSet s ⊎ ¬ (WeakSet s)
  weak_set = decided_reachable Weak soft_left B within_soft

  abbrev weak_left : Heap
  weak_left = cleared_of Weak WeakSet weak_set soft_left

  weak_clears : Clears Weak WeakSet soft_left weak_left
  weak_clears = clears Weak WeakSet weak_set soft_left

  within_weak : AreEdgesWithin UpToPhantom weak_left
  within_weak = within_after Weak WeakSet soft_left weak_left weak_clears weak_set within_soft

  abbrev PhantomSet : ℕ → Type 0
  PhantomSet s = HasStrength Phantom weak_left B s

  phantom_set : (s : ℕ) → PhantomSet s ⊎ ¬ (PhantomSet s)
  phantom_set = decided_reachable Phantom weak_left B within_weak

  abbrev phantom_left : Heap
  phantom_left = cleared_of Phantom PhantomSet phantom_set weak_left

  phantom_clears : Clears Phantom PhantomSet weak_left phantom_left
  phantom_clears = clears Phantom PhantomSet phantom_set weak_left

  -- ---- What is kept is reached by strong and soft edges throughout

  -- a soft reference to what is kept stays
  soft_stays : (x y : ℕ) → y ∈ kept → HasEdge UpToSoft heap x y → HasEdge UpToSoft soft_left x y
  soft_stays x y m (inl e) = inl (strong_forth Soft Dropped heap soft_left soft_clears dropped x y e)
  soft_stays x y m (inr e) = inr (
    e.0,
    e.1,
    referent_forth Soft Dropped heap soft_left soft_clears dropped e.0 x y e.2
        (λ q d. both_ways (kept ∋ y) (not-true (kept ∋ y) d.1) m),
  )

  soft_lives : (s : ℕ) → s ∈ kept → IsReached UpToSoft soft_left B s
  soft_lives s m =
      carried UpToSoft (only kept heap) B (λ s. s ∈ kept → IsReached UpToSoft soft_left B s)
      (λ x y r e n. let back = inside_back UpToSoft heap kept x y e in
      one_edge_more UpToSoft soft_left B x y (r back.0) (soft_stays x y n back.1))
      (λ s b n. at_base UpToSoft soft_left B s b)
      s (inside s m) m

  first_lives : (s : ℕ) → s ∈ kept → IsReached UpToSoft heap B s
  first_lives s m =
      carried UpToSoft (only kept heap) B (IsReached UpToSoft heap B)
      (λ x y r e. one_edge_more UpToSoft heap B x y r (inside_back UpToSoft heap kept x y e).1) (at_base UpToSoft heap B) s (inside s m)

  weak_stays : (x y : ℕ) → HasEdge UpToSoft soft_left x y → HasEdge UpToSoft weak_left x y
  weak_stays x y (inl e) = inl (strong_forth Weak WeakSet soft_left weak_left weak_clears weak_set x y e)
  weak_stays x y (inr (Soft, t, e)) =
      inr (Soft, t, referent_forth Weak WeakSet soft_left weak_left weak_clears weak_set Soft x y e (λ q. absurd (kinds_apart q)))
  weak_stays x y (inr (Weak, t, e)) = absurd (both_ways false refl t)
  weak_stays x y (inr (Phantom, t, e)) = absurd (both_ways false refl t)

  weak_lives : (s : ℕ) → s ∈ kept → IsReached UpToSoft weak_left B s
  weak_lives s m = carried UpToSoft soft_left B (IsReached UpToSoft weak_left B)
      (λ x y r e. one_edge_more UpToSoft weak_left B x y r (weak_stays x y e)) (at_base UpToSoft weak_left B) s (soft_lives s m)

  last_stays : (x y : ℕ) → HasEdge UpToSoft weak_left x y → HasEdge UpToSoft phantom_left x y
  last_stays x y (inl e) = inl (strong_forth Phantom PhantomSet weak_left phantom_left phantom_clears phantom_set x y e)
  last_stays x y (inr (Soft, t, e)) = inr (
    Soft,
    t,
    referent_forth Phantom PhantomSet weak_left phantom_left phantom_clears phantom_set Soft x y e (λ q. absurd (soft_phantom q)),
  )
  last_stays x y (inr (Weak, t, e)) = absurd (both_ways false refl t)
  last_stays x y (inr (Phantom, t, e)) = absurd (both_ways false refl t)

  last_lives : (s : ℕ) → s ∈ kept → IsReached UpToPhantom phantom_left B s
  last_lives s m =
      reached_wider UpToSoft UpToPhantom phantom_left B s (λ k e. refl)
      (carried UpToSoft weak_left B (IsReached UpToSoft phantom_left B)
      (λ x y r e. one_edge_more UpToSoft phantom_left B x y r (last_stays x y e)) (at_base UpToSoft phantom_left B) s (weak_lives s m))

  weakly_soft : (s : ℕ) → s ∈ kept → IsReached UpToWeak soft_left B s
  weakly_soft s m = reached_wider UpToSoft UpToWeak soft_left B s softly_weakly (soft_lives s m)

  weakly_weak : (s : ℕ) → s ∈ kept → IsReached UpToWeak weak_left B s
  weakly_weak s m = reached_wider UpToSoft UpToWeak weak_left B s softly_weakly (weak_lives s m)

  any_weak : (s : ℕ) → s ∈ kept → IsReached UpToPhantom weak_left B s
  any_weak s m = reached_wider UpToSoft UpToPhantom weak_left B s (λ k e. refl) (weak_lives s m)

  -- ---- All three leave what is kept closed

  -- it is kept unless that leads to a contradiction
  by_contradiction : (y : ℕ) → ((kept ∋ y) ≡ false → ⊥) → y ∈ kept
  by_contradiction y h = elim (cases_Bool (kept ∋ y)) [ inl m ↦ m | inr n ↦ absurd (h n) ]

  strongly_step : (x y : ℕ) → x ∈ kept → HasEdge Strong heap x y → y ∈ kept
  strongly_step x y m (inl e) = closed x y m e
  strongly_step x y m (inr e) = absurd (both_ways false refl e.1)

  strongly_kept : (s : ℕ) → IsReached Strong heap B s → s ∈ kept
  strongly_kept s r = carried Strong heap B (λ s. s ∈ kept) strongly_step all_kept s r

  soft_edge : (x y : ℕ) → x ∈ kept → HasReferent Soft soft_left x y → y ∈ kept
  soft_edge x y m e = by_contradiction y (λ n. referent_kept Soft Dropped heap soft_left soft_clears dropped x y e (
    (
      (λ r. both_ways (kept ∋ y) n (strongly_kept y r)),
      one_edge_more UpToSoft heap B x y (first_lives x m)
          (inr (Soft, refl, referent_back Soft Dropped heap soft_left soft_clears dropped Soft x y e)),
    ),
    not_from_false (kept ∋ y) n,
  ))

  strong_one : (x y : ℕ) → x ∈ kept → HasStrong soft_left x y → y ∈ kept
  strong_one x y m e = closed x y m (strong_back Soft Dropped heap soft_left soft_clears dropped x y e)

  softly_step : (x y : ℕ) → x ∈ kept → HasEdge UpToSoft soft_left x y → y ∈ kept
  softly_step x y m (inl e) = strong_one x y m e
  softly_step x y m (inr (Soft, t, e)) = soft_edge x y m e
  softly_step x y m (inr (Weak, t, e)) = absurd (both_ways false refl t)
  softly_step x y m (inr (Phantom, t, e)) = absurd (both_ways false refl t)

  softly_kept : (s : ℕ) → IsReached UpToSoft soft_left B s → s ∈ kept
  softly_kept s r = carried UpToSoft soft_left B (λ s. s ∈ kept) softly_step all_kept s r

  weak_back : (k : RefKind) (x y : ℕ) → HasReferent k weak_left x y → HasReferent k soft_left x y
  weak_back k x y e = referent_back Weak WeakSet soft_left weak_left weak_clears weak_set k x y e

  weak_edge : (x y : ℕ) → x ∈ kept → HasReferent Weak weak_left x y → y ∈ kept
  weak_edge x y m e = by_contradiction y (λ n. referent_kept Weak WeakSet soft_left weak_left weak_clears weak_set x y e (
    (λ r. both_ways (kept ∋ y) n (softly_kept y r)),
    one_edge_more UpToWeak soft_left B x y (weakly_soft x m) (inr (Weak, refl, weak_back Weak x y e)),
  ))

  strong_two : (x y : ℕ) → x ∈ kept → HasStrong weak_left x y → y ∈ kept
  strong_two x y m e = strong_one x y m (strong_back Weak WeakSet soft_left weak_left weak_clears weak_set x y e)

  weakly_step : (x y : ℕ) → x ∈ kept → HasEdge UpToWeak weak_left x y → y ∈ kept
  weakly_step x y m (inl e) = strong_two x y m e
  weakly_step x y m (inr (Soft, t, e)) = soft_edge x y m (weak_back Soft x y e)
  weakly_step x y m (inr (Weak, t, e)) = weak_edge x y m e
  weakly_step x y m (inr (Phantom, t, e)) = absurd (both_ways false refl t)

  weakly_kept : (s : ℕ) → IsReached UpToWeak weak_left B s → s ∈ kept
  weakly_kept s r = carried UpToWeak weak_left B (λ s. s ∈ kept) weakly_step all_kept s r

  last_back : (k : RefKind) (x y : ℕ) → HasReferent k phantom_left x y → HasReferent k weak_left x y
  last_back k x y e = referent_back Phantom PhantomSet weak_left phantom_left phantom_clears phantom_set k x y e

  phantom_edge : (x y : ℕ) → x ∈ kept → HasReferent Phantom phantom_left x y → y ∈ kept
  phantom_edge x y m e = by_contradiction y (λ n. referent_kept Phantom PhantomSet weak_left phantom_left phantom_clears phantom_set x y e (
    (λ r. both_ways (kept ∋ y) n (weakly_kept y r)),
    one_edge_more UpToPhantom weak_left B x y (any_weak x m) (inr (Phantom, refl, last_back Phantom x y e)),
  ))

  last_edge : (k : RefKind) (x y : ℕ) → x ∈ kept → HasReferent k phantom_left x y → y ∈ kept
  last_edge Soft x y m e = soft_edge x y m (weak_back Soft x y (last_back Soft x y e))
  last_edge Weak x y m e = weak_edge x y m (last_back Weak x y e)
  last_edge Phantom x y m e = phantom_edge x y m e

  last_step : (x y : ℕ) → x ∈ kept → HasEdge UpToPhantom phantom_left x y → y ∈ kept
  last_step x y m (inl e) = strong_two x y m (strong_back Phantom PhantomSet weak_left phantom_left phantom_clears phantom_set x y e)
  last_step x y m (inr e) = last_edge e.0 x y m e.2

  all_is_kept : (s : ℕ) → IsReached UpToPhantom phantom_left B s → s ∈ kept
  all_is_kept s r = carried UpToPhantom phantom_left B (λ s. s ∈ kept) last_step all_kept s r

  -- ---- Who loses a referent

  either : (s : ℕ) (o : Object) → at heap s ≡ Some o → IsOrWithout (at phantom_left s) o
  either s o e =
      once_more Phantom PhantomSet weak_left phantom_left phantom_clears phantom_set s o
      (once_more Weak WeakSet soft_left weak_left weak_clears weak_set s o
      (once_more Soft Dropped heap soft_left soft_clears dropped s o (inl e)))

  keeps : (s x : ℕ) (o : Object) → at heap s ≡ Some o → any_referent o ≡ Some x → x ∈ kept → at phantom_left s ≡ Some o
  keeps s x o e f m =
      let one = stays Soft Dropped heap soft_left soft_clears dropped s x o e f (λ d. both_ways (kept ∋ x) (not-true (kept ∋ x) d.1) m) in
      let two = stays Weak WeakSet soft_left weak_left weak_clears weak_set s x o one f (λ d. d.0 (soft_lives x m)) in
      stays Phantom PhantomSet weak_left phantom_left phantom_clears phantom_set s x o two f (λ d. d.0 (weakly_weak x m))

  loses : (s x : ℕ) (o : Object) → s ∈ kept → at heap s ≡ Some o → any_referent o ≡ Some x → (kept ∋ x) ≡ false
      → at phantom_left s ≡ Some (without_referent o)
  loses s x o m e f n = elim (either s o e) [
    | inl same ↦ let k = some_kind o x f in absurd (both_ways (kept ∋ x) n (last_edge k.0 s x m (o, same, k.1)))
    | inr without ↦ without
  ]

  pub is_collection : (pending : List ℕ) → ((s : ℕ) → (s ∈ pending) ↔ LosesReferent heap kept s) → is_distinct pending ≡ true
      → is_rising kept ≡ true → IsCollection heap B kept pending
  is_collection pending handed once rising =
      record {
        soft_left = soft_left;
        weak_left = weak_left;
        phantom_left = phantom_left;
        soft = (
          record {
            members = λ x d. d.0;
            closed = λ x y d r path. (
              r,
              not_from_false (kept ∋ y) (false_from_ne_true (kept ∋ y) (λ m. both_ways (kept ∋ x) (not-true (kept ∋ x) d.1)
                  (along Strong heap kept (λ a b n e. strongly_step a b n (edge_gives Strong heap a b e)) y path.0 x m path.1))),
            );
          },
          soft_clears,
        );
        weak = weak_clears;
        phantom = phantom_clears;
        exact = λ s. (last_lives s, all_is_kept s);
        pended = λ s. (
          (λ m. to_handed heap phantom_left kept keeps loses s ((handed s).0 m)),
          (λ h. (handed s).1 (from_handed heap phantom_left kept keeps loses s h)),
        );
        once = once;
        rising = rising;
      }

-- ---- And the other way

module _ (heap : Heap) (B kept pending : List ℕ) (c : IsCollection heap B kept pending) (within : AreEdgesWithin UpToPhantom heap) where
  holds_base : (s : ℕ) → s ∈ B → s ∈ kept
  holds_base s m = (c.exact s).1 (at_base UpToPhantom c.phantom_left B s m)

  live_step : (x y : ℕ) → x ∈ kept → HasEdge UpToSoft c.soft_left x y → y ∈ kept
  live_step x y m e =
      (c.exact y).1 (one_edge_more UpToPhantom c.phantom_left B x y ((c.exact x).0 m) (soft_to_last heap B kept pending c within x y e))

  pub inside_of : (s : ℕ) → s ∈ kept → IsReached UpToSoft (only kept heap) B s
  inside_of s m =
      (carried UpToSoft c.soft_left B (λ s. (s ∈ kept) × IsReached UpToSoft (only kept heap) B s)
      (λ x y r e. (
        live_step x y r.0 e,
        one_edge_more UpToSoft (only kept heap) B x y r.1
            (inside_forth UpToSoft heap kept x y r.0 (soft_edge_back heap B kept pending c within x y e)),
      ))
      (λ s b. (holds_base s b, at_base UpToSoft (only kept heap) B s b))
      s (kept_is_live heap B kept pending c within s m)).1

  pub is_cut_off : IsCutOff heap B kept pending
  is_cut_off =
      let keeps = keeps_referent heap B kept pending c within in
      let loses = loses_referent heap B kept pending c within in
      record {
        holds_base = holds_base;
        closed = λ x y m e. live_step x y m (strong_to_soft heap B kept pending c within x y (edge_gives Strong heap x y e));
        inside = inside_of;
        pended = λ s. (
          (λ m. from_handed heap c.phantom_left kept keeps loses s ((c.pended s).0 m)),
          (λ h. (c.pended s).1 (to_handed heap c.phantom_left kept keeps loses s h)),
        );
        once = c.once;
        rising = c.rising;
      }
