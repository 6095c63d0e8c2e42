-- The heap with the kept objects alone.
use Rattle.std.proofs.Common.{◌≡◌, ℕ, zero, suc, ◌+◌, ◌<◌, Bool, true, false, cond, List, [], ◌∷◌, length, refl, sym, ◌∙◌, ap, subst, inl}
use Rattle.std.proofs.Common.{inr, arith, Option, Some, None}
use Rattle.std.proofs.lemmas.Bool.{cond-true}
use Rattle.jlr_machine.specs.declared.object.Object.{Object}
use Rattle.jlr_machine.specs.Objects.{Heap, at, ◌∋◌, ◌∈◌}
use Rattle.jlr_machine.specs.Edges.{Chain}
use Rattle.jlr_machine.specs.Edges.Chain.{UpToPhantom}
use Rattle.jlr_laws.specs.Laws.{places_kept, only}
use Rattle.jlr_laws.proofs.Paths.{AreEdgesWithin}
use Rattle.jlr_laws.proofs.Clearing.{HasEdge, edge_gives, edge_from}

at-places_kept : (kept : List ℕ) (n : ℕ) (heap : Heap) (s t : ℕ) → t ≡ n + s
    → at (places_kept kept n heap) s ≡ cond (kept ∋ t) (at heap s) None
at-places_kept kept n [] s t e = elim (kept ∋ t) as (λ b. ◌≡◌ {A = Option Object} None (cond b None None)) [ true ↦ refl | false ↦ refl ]
at-places_kept kept n (o ∷ places) zero t e =
    let same : n ≡ t = omega (arith, e) in
    ap (λ k. cond (kept ∋ k) o None) same
at-places_kept kept n (o ∷ places) (suc s) t e = at-places_kept kept (suc n) places s t (omega (arith, e))

length-places_kept : (kept : List ℕ) (n : ℕ) (heap : Heap) → length (places_kept kept n heap) ≡ length heap
length-places_kept kept n [] = refl
length-places_kept kept n (o ∷ places) = ap suc (length-places_kept kept (suc n) places)

pub length-only : (kept : List ℕ) (heap : Heap) → length (only kept heap) ≡ length heap
length-only kept heap = length-places_kept kept 0 heap

pub at-only : (kept : List ℕ) (heap : Heap) (s : ℕ) → at (only kept heap) s ≡ cond (kept ∋ s) (at heap s) None
at-only kept heap s = at-places_kept kept 0 heap s s (omega arith)

taken_or_not : (b : Bool) (p : Option Object) (o : Object) → cond b p None ≡ Some o → (b ≡ true) × (p ≡ Some o)
taken_or_not true p o e = (refl, e)
taken_or_not false p o e = absurd (cc e)

pub only_back : (kept : List ℕ) (heap : Heap) (s : ℕ) (o : Object) → at (only kept heap) s ≡ Some o → (s ∈ kept) × (at heap s ≡ Some o)
only_back kept heap s o e = taken_or_not (kept ∋ s) (at heap s) o (sym (at-only kept heap s) ∙ e)

pub only_forth : (kept : List ℕ) (heap : Heap) (s : ℕ) (o : Object) → s ∈ kept → at heap s ≡ Some o → at (only kept heap) s ≡ Some o
only_forth kept heap s o m e = at-only kept heap s ∙ cond-true (kept ∋ s) (at heap s) None m ∙ e

-- ---- Edges

pub inside_back : (chain : Chain) (heap : Heap) (kept : List ℕ) (x y : ℕ) → HasEdge chain (only kept heap) x y → (x ∈ kept)
    × HasEdge chain heap x y
inside_back chain heap kept x y (inl e) = let r = only_back kept heap x e.0 e.1 in (r.0, inl (e.0, r.1, e.2))
inside_back chain heap kept x y (inr e) = let r = only_back kept heap x e.2.0 e.2.1 in (r.0, inr (e.0, e.1, (e.2.0, r.1, e.2.2)))

pub inside_forth : (chain : Chain) (heap : Heap) (kept : List ℕ) (x y : ℕ) → x ∈ kept → HasEdge chain heap x y
    → HasEdge chain (only kept heap) x y
inside_forth chain heap kept x y m (inl e) = inl (e.0, only_forth kept heap x e.0 m e.1, e.2)
inside_forth chain heap kept x y m (inr e) = inr (e.0, e.1, (e.2.0, only_forth kept heap x e.2.0 m e.2.1, e.2.2))

pub within_only : (heap : Heap) (kept : List ℕ) → AreEdgesWithin UpToPhantom heap → AreEdgesWithin UpToPhantom (only kept heap)
within_only heap kept w x s m =
    subst (λ n. s < n) (sym (length-only kept heap))
    (w x s (edge_from UpToPhantom heap x s (inside_back UpToPhantom heap kept x s (edge_gives UpToPhantom (only kept heap) x s m)).1))
