-- A guard and its cleanable, made one after the other.
use Rattle.std.proofs.Common.{◌≡◌, ◌<◌, ℕ, zero, suc, List, [], ◌∷◌, length, Option, Some, None, option_map, slice_set}
use Rattle.std.proofs.Common.{refl, sym, ◌∙◌, ap}
use Rattle.jlr_types.specs.declared.Work.TheVariants.{Resource as WorkOn}
use Rattle.jlr_machine.specs.declared.object.Object.{Object}
use Rattle.jlr_machine.specs.declared.object.Object.TheVariants.{Cleanable, Guard}
use Rattle.jlr_machine.specs.declared.object.CleanState.TheVariants.{Armed}
use Rattle.jlr_machine.specs.Objects.{Heap, at, change_at, set_at, with_cleanable}
use Rattle.jlr_laws.proofs.Frames.{set_other, set_same}
use Rattle.jlr_cells.specs.Contents.{watching}
use Rattle.jlr_barrier.specs.Graphs.{Clock, made_now}
use Rattle.jlr_barrier.specs.Guards.{with_guard}

-- ---- Two places of a list

set_swap : {A : Type 0} (xs : List A) (i j : ℕ) (x y : A) → (i ≡ j → ⊥)
    → slice_set (slice_set xs i x) j y ≡ slice_set (slice_set xs j y) i x
set_swap [] i j x y d = refl
set_swap (z ∷ xs) zero zero x y d = absurd (d refl)
set_swap (z ∷ xs) zero (suc j) x y d = refl
set_swap (z ∷ xs) (suc i) zero x y d = refl
set_swap (z ∷ xs) (suc i) (suc j) x y d = ap (λ l. z ∷ l) (set_swap xs i j x y (λ e. d (ap suc e)))

set_twice : {A : Type 0} (xs : List A) (i : ℕ) (x y : A) → slice_set (slice_set xs i x) i y ≡ slice_set xs i y
set_twice [] i x y = refl
set_twice (z ∷ xs) zero x y = refl
set_twice (z ∷ xs) (suc i) x y = ap (λ l. z ∷ l) (set_twice xs i x y)

-- ---- Made and tied

abbrev pub untied : ℕ → ℕ → Object
untied rid action = Cleanable (record { referent = None; action = action; work = WorkOn rid; state = Armed })

pub made_guard : (heap : Heap) (g c rid action : ℕ) → c < length heap → (g ≡ c → ⊥)
    → change_at (set_at (set_at heap c (untied rid action)) g (Guard (record { rid = rid; cleanable = c }))) c (with_cleanable (watching g))
    ≡ with_guard heap g c rid action
made_guard heap g c rid action within apart =
    let guard : Option Object = Some (Guard (record { rid = rid; cleanable = c })) in
    let loose : Option Object = Some (untied rid action) in
    let tied : Option Object = Some (Cleanable (record { referent = Some g; action = action; work = WorkOn rid; state = Armed })) in
    let there : at (slice_set (slice_set heap c loose) g guard) c ≡ loose =
    set_other (slice_set heap c loose) g c guard (λ e. apart (sym e)) ∙ set_same heap c loose within in
    ap (λ o. slice_set (slice_set (slice_set heap c loose) g guard) c (option_map (with_cleanable (watching g)) o)) there
    ∙ ap (λ l. slice_set l c tied) (set_swap heap c g loose guard (λ e. apart (sym e)))
    ∙ set_twice (slice_set heap g guard) c loose tied

pub made_both : (k : Clock) (g c : ℕ) → (g ≡ c → ⊥) → made_now (made_now k c) g ≡ made_now (made_now k g) c
made_both k g c apart = ap {A = List ℕ} {B = Clock} (λ l. record (made_now (made_now k c) g) { last_gets = l })
    (set_swap k.last_gets c g k.collections k.collections (λ e. apart (sym e)))
