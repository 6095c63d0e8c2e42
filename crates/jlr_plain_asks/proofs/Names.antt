-- Lemmas on names.
use Rattle.std.proofs.Common.{◌≡◌, ◌≢◌, ℕ, Bool, true, false, ◌&&◌, List, [], ◌∷◌, length, refl, ap, ◌∙◌, nat_eq, arith}
use Rattle.jlr_machine.specs.Lookups.{same_name}

and_false : (b : Bool) → (b && false) ≡ false
and_false b = elim b as (λ x. (x && false) ≡ false) [ true ↦ refl | false ↦ refl ]

-- names of different lengths differ
pub names_differ : (xs ys : List ℕ) → length xs ≢ length ys → same_name xs ys ≡ false
names_differ [] [] n = absurd (n refl)
names_differ [] (y ∷ ys) n = refl
names_differ (x ∷ xs) [] n = refl
names_differ (x ∷ xs) (y ∷ ys) n = ap (λ b. nat_eq x y && b) (names_differ xs ys (λ e. n (omega (arith, e)))) ∙ and_false (nat_eq x y)
