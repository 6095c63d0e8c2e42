-- Tests that compute, from which a collection of a given heap is seen to be one.
use Rattle.std.proofs.Common.{◌≡◌, ℕ, zero, suc, ◌<◌, ◌≤◌, Bool, true, cond, not, ◌&&◌, ◌||◌, List, [], ◌∷◌, length, refl, sym, ◌∙◌}
use Rattle.std.proofs.Common.{ap, subst, inl, inr, arith, nat_lt, IsTrue, Option, Some, None, map, option_map, option_to_list}
use Rattle.std.specs.List.{list_all, flat_map}
use Rattle.std.proofs.lemmas.Bool.{ltb-true, cond-true, cond-false}
use Rattle.std.proofs.lemmas.Bool.{false_from_ne_true, cases_lt}
use Rattle.jlr_types.specs.declared.RefKind.{RefKind}
use Rattle.jlr_types.specs.declared.RefKind.TheVariants.{Soft, Weak, Phantom}
use Rattle.jlr_machine.specs.declared.object.Object.{Object}
use Rattle.jlr_machine.specs.Objects.{Table, Heap, at, some_and, ◌∋◌, ◌∈◌, is_distinct, is_rising}
use Rattle.jlr_machine.specs.Edges.{Chain, edges, edges_from, referent}
use Rattle.jlr_machine.specs.Reachable.{HasStrength}
use Rattle.jlr_machine.specs.Collection.{PointsInto, Clears, without_referent, is_ready, has_referent}
use Rattle.jlr_machine.specs.ReachSet.{up_to, one_round, rounds}
use Rattle.jlr_machine.specs.Edges.Chain.{Strong, UpToSoft, UpToWeak, UpToPhantom}
use Rattle.jlr_laws.proofs.Sets.{all_gives, nothing, up_to_in}
use Rattle.jlr_laws.proofs.Paths.{AreEdgesWithin}

-- ---- Tables

pub at-map : {A : Type 0} (f : A → A) (table : Table A) (s : ℕ)
    → at (map {A = Option A} {B = Option A} (option_map f) table) s ≡ option_map f (at table s)
at-map f [] s = refl
at-map f (o ∷ places) zero = refl
at-map f (o ∷ places) (suc s) = at-map f places s

pub at_beyond : {A : Type 0} (table : Table A) (s : ℕ) → length table ≤ s → at table s ≡ None
at_beyond [] s h = refl
at_beyond (o ∷ places) zero h = absurd (omega (arith, h))
at_beyond (o ∷ places) (suc s) h = at_beyond places s (omega (arith, h))

-- ---- Edges stay within the heap

abbrev pub all_below : ℕ → List ℕ → Bool
all_below n slots = list_all (λ s. nat_lt s n) slots

abbrev pub edges_within : Chain → Heap → Bool
edges_within chain heap = list_all (λ x. all_below (length heap) (edges_from chain heap x)) (up_to 0 (length heap))

pub within : (chain : Chain) (heap : Heap) → edges_within chain heap ≡ true → AreEdgesWithin chain heap
within chain heap h x s m = elim (cases_lt x (length heap)) [
  | inl inside ↦
      let row = all_gives (λ x. all_below (length heap) (edges_from chain heap x)) (up_to 0 (length heap)) x h
      (up_to_in 0 (length heap) x (omega arith) (omega (arith, inside))) in
      ltb-true s (length heap) (all_gives (λ s. nat_lt s (length heap)) (edges_from chain heap x) s row m)
  | inr outside ↦ nothing s (subst (λ o. s ∈ flat_map (edges chain) (option_to_list o)) (at_beyond heap x outside) m)
]

pub below : (n : ℕ) (slots : List ℕ) → all_below n slots ≡ true → (s : ℕ) → s ∈ slots → s < n
below n slots h s m = ltb-true s n (all_gives (λ s. nat_lt s n) slots s h m)

-- the chain's edges and the base lie within the heap
pub record IsWithin (chain : Chain) (heap : Heap) (B : List ℕ) : Type 0 where
  pub chain_within : edges_within chain heap ≡ true
  pub base_within : all_below (length heap) B ≡ true

-- S is what a chain reaches from B: some rounds find it, and one more adds nothing
pub record Found (chain : Chain) (heap : Heap) (B S : List ℕ) : Type 0 where
  pub rounds_made : ℕ
  pub all : rounds rounds_made chain heap B ≡ S
  pub no_more : one_round chain heap S ≡ S
  pub inside : IsWithin chain heap B

-- ---- What is softly, weakly or phantom reachable: found by the one chain, and not by the stronger one

abbrev pub found_only : List ℕ → List ℕ → ℕ → Bool
found_only by stronger s = (by ∋ s) && not (stronger ∋ s)

-- ---- Clearing

abbrev pub cleared_object : RefKind → (ℕ → Bool) → Object → Object
cleared_object kind test o = cond (some_and test (referent kind o)) (without_referent o) o

abbrev pub cleared : RefKind → (ℕ → Bool) → Heap → Heap
cleared kind test heap = map {A = Option Object} {B = Option Object} (option_map (cleared_object kind test)) heap

object_cleared : (kind : RefKind) (C : ℕ → Type 0) (test : ℕ → Bool) (o : Object) → ((x : ℕ) → C x → test x ≡ true)
    → PointsInto kind C (Some o) → cleared_object kind test o ≡ without_referent o
object_cleared kind C test o passing p =
    cond-true (some_and test (referent kind o)) (without_referent o) o (subst (λ r. some_and test r ≡ true) (sym p.1) (passing p.0 p.2))

object_kept : (kind : RefKind) (C : ℕ → Type 0) (test : ℕ → Bool) (o : Object) → ((x : ℕ) → test x ≡ true → C x)
    → ¬ (PointsInto kind C (Some o)) → cleared_object kind test o ≡ o
object_kept kind C test o passed p =
    elim (referent kind o) as (λ r. referent kind o ≡ r → cond (some_and test r) (without_referent o) o ≡ o) [
      | None ↦ λ e. refl
      | Some x ↦ λ e. cond-false (test x) (without_referent o) o (false_from_ne_true (test x) (λ t. p (x, e, passed x t)))
    ] refl

module _ (kind : RefKind) (C : ℕ → Type 0) (test : ℕ → Bool) (heap : Heap) (passing : (x : ℕ) → C x → test x ≡ true)
    (passed : (x : ℕ) → test x ≡ true → C x) where
  cells_cleared : (heap : Heap) → length (cleared kind test heap) ≡ length heap
  cells_cleared [] = refl
  cells_cleared (o ∷ places) = ap suc (cells_cleared places)

  objects_cleared : (s : ℕ) → PointsInto kind C (at heap s) → at (cleared kind test heap) s ≡ option_map without_referent (at heap s)
  objects_cleared s =
      let there = at-map (cleared_object kind test) heap s in
      elim (at heap s) as (λ o. at (cleared kind test heap) s ≡ option_map (cleared_object kind test) o → PointsInto kind C o
      → at (cleared kind test heap) s ≡ option_map without_referent o) [
        | None ↦ λ e p. e
        | Some o ↦ λ e p. e ∙ ap (λ x. Some x) (object_cleared kind C test o passing p)
      ] there

  objects_kept : (s : ℕ) → ¬ (PointsInto kind C (at heap s)) → at (cleared kind test heap) s ≡ at heap s
  objects_kept s =
      let there = at-map (cleared_object kind test) heap s in
      elim (at heap s) as (λ o. at (cleared kind test heap) s ≡ option_map (cleared_object kind test) o → ¬ (PointsInto kind C o)
      → at (cleared kind test heap) s ≡ o) [
        | None ↦ λ e p. e
        | Some o ↦ λ e p. e ∙ ap (λ x. Some x) (object_kept kind C test o passed p)
      ] there

  pub cleared-Clears : Clears kind C heap (cleared kind test heap)
  cleared-Clears = record { cells = cells_cleared heap; cleared = objects_cleared; others = objects_kept }

-- ---- A collection, step by step

abbrev pub handed_test : Heap → Heap → List ℕ → ℕ → Bool
handed_test old new kept s = (kept ∋ s) && (some_and is_ready (at old s) && (has_referent (at old s) && not (has_referent (at new s))))

abbrev pub soft_test : List ℕ → List ℕ → List ℕ → ℕ → Bool
soft_test soft strong kept s = found_only soft strong s && not (kept ∋ s)

-- the sets and the heaps in between, with tests of each
pub record Checks (heap : Heap) (B kept pending : List ℕ) : Type 0 where
  pub strong : List ℕ
  pub soft : List ℕ
  pub soft_left : Heap
  pub soft_then : List ℕ
  pub weak_then : List ℕ
  pub weak_left : Heap
  pub weak_later : List ℕ
  pub any_later : List ℕ
  pub phantom_left : Heap
  pub strong_found : Found Strong heap B strong
  pub soft_found : Found UpToSoft heap B soft
  pub soft_cleared : cleared Soft (soft_test soft strong kept) heap ≡ soft_left
  pub soft_then_found : Found UpToSoft soft_left B soft_then
  pub weak_then_found : Found UpToWeak soft_left B weak_then
  pub weak_cleared : cleared Weak (found_only weak_then soft_then) soft_left ≡ weak_left
  pub weak_later_found : Found UpToWeak weak_left B weak_later
  pub any_later_found : Found UpToPhantom weak_left B any_later
  pub phantom_cleared : cleared Phantom (found_only any_later weak_later) weak_left ≡ phantom_left
  pub kept_found : Found UpToPhantom phantom_left B kept
  -- strong edges lead from kept objects to kept ones
  pub closed : list_all (λ y. list_all (λ x. kept ∋ x) (edges_from Strong heap y)) kept ≡ true
  pub pended : list_all (handed_test heap phantom_left kept) pending ≡ true
  pub all_handed : list_all (λ s. not (handed_test heap phantom_left kept s) || (pending ∋ s)) kept ≡ true
  pub once : is_distinct pending ≡ true
  pub rising : is_rising kept ≡ true

module _ (heap : Heap) (B kept pending : List ℕ) (k : Checks heap B kept pending) where
  abbrev C : ℕ → Type 0
  C s = HasStrength Soft heap B s × IsTrue (not (kept ∋ s))
