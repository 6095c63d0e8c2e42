-- A list without repeats of slots below a number is no longer than that number.
use Rattle.std.proofs.Common.{◌≡◌, ◌&&◌, ◌||◌, ◌<◌, ◌≤◌, ℕ, Bool, true, false, not, IsTrue, List, [], ◌∷◌, length, refl}
use Rattle.std.specs.List.{IsDistinct, AllByRecursion}
use Rattle.std.specs.Prelude.{nat_eq}
use Rattle.std.proofs.lemmas.Bool.{both_ways}
use Rattle.std.proofs.lemmas.Map.Steps.{length-le_from_distinct_below}
use Rattle.jlr_machine.specs.Objects.{◌∈◌, ◌∋◌, is_distinct}

or_gives : (a b : Bool) → (a || b) ≡ false → (a ≡ false) × (b ≡ false)
or_gives true b h = absurd (both_ways true h refl)
or_gives false b h = (refl, h)

apart : (x : ℕ) (ys : List ℕ) → (ys ∋ x) ≡ false → AllByRecursion (λ y. nat_eq x y ≡ false) ys
apart x [] h = tt
apart x (y ∷ ys) h = let both = or_gives (nat_eq x y) (ys ∋ x) h in (both.0, apart x ys both.1)

distinct_gives : (x : ℕ) (xs : List ℕ) → is_distinct (x ∷ xs) ≡ true → ((xs ∋ x) ≡ false) × (is_distinct xs ≡ true)
distinct_gives x xs h = elim (xs ∋ x) as (λ b. (not b && is_distinct xs) ≡ true → (b ≡ false) × (is_distinct xs ≡ true)) [
  | true ↦
      λ e. absurd (both_ways false refl e)
  | false ↦ λ e. (refl, e)
] h

as_distinct : (xs : List ℕ) → is_distinct xs ≡ true → IsDistinct nat_eq xs
unfolding IsDistinct
as_distinct [] h = tt
as_distinct (x ∷ xs) h = let both = distinct_gives x xs h in (apart x xs both.0, as_distinct xs both.1)

pub short : (xs : List ℕ) (n : ℕ) → IsTrue (is_distinct xs) → ((x : ℕ) → x ∈ xs → x < n) → length xs ≤ n
short xs n once below = length-le_from_distinct_below xs n (as_distinct xs once) below
