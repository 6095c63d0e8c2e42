-- How many slots are in a set.
use Rattle.std.proofs.Common.{◌≡◌, ℕ, zero, suc, ◌+◌, ◌<◌, ◌≤◌, Bool, true, false, cond, List, [], ◌∷◌, length, set, get_or, refl}
use Rattle.std.proofs.Common.{replicate, sym, ◌∙◌, ap, inl, inr, arith, length-set}
use Rattle.std.specs.Prelude.{count_by}
use Rattle.std.proofs.lemmas.Bool.{cases_lt, false≢true}
use Rattle.std.proofs.lemmas.List.{get_or_past, get_or-replicate, length-replicate}
use Rattle.std.proofs.lemmas.List.Sums.{sum_by-cons, sum_by-set}
use Rattle.jlr_sets.specs.SlotSets.{is_in, slots_below, slots_of}
use Rattle.jlr_sets.proofs.Below.{count-suc, count_le, slots_below-zero}

left_place : (n : ℕ) (b : Bool) (places : List Bool)
    → length (slots_below (suc n) (b ∷ places)) ≡ cond b 1 0 + length (slots_below n places)
left_place zero b places =
    let none = ap {A = List ℕ} {B = ℕ} length (slots_below-zero (b ∷ places)) in
    let none' = ap {A = List ℕ} {B = ℕ} length (slots_below-zero places) in
    omega (arith, count-suc 0 (b ∷ places), none, none')
left_place (suc n) b places = omega (arith, count-suc (suc n) (b ∷ places), left_place n b places, count-suc n places)

pub count_all : (places : List Bool) → length (slots_of places) ≡ count_by (λ b. b) places
count_all [] = ap {A = List ℕ} {B = ℕ} length (slots_below-zero [])
count_all (b ∷ places) = left_place (length places) b places ∙ ap (λ n. cond b 1 0 + n) (count_all places)
    ∙ sym (sum_by-cons (λ x. cond x 1 0) b places)

-- one slot more
pub one_more : (places : List Bool) (s : ℕ) → s < length places → is_in places s ≡ false
    → length (slots_of (set places s true)) ≡ length (slots_of places) + 1
one_more places s within off =
    let f : Bool → ℕ = λ b. cond b 1 0 in
    let was : f (get_or places s false) ≡ f false = ap f off in
    omega (arith, count_all places, count_all (set places s true), sum_by-set f places s true false within, was)

-- one slot less
pub one_less : (places : List Bool) (s : ℕ) → s < length places → is_in places s ≡ true
    → length (slots_of (set places s false)) + 1 ≡ length (slots_of places)
one_less places s within on =
    let f : Bool → ℕ = λ b. cond b 1 0 in
    let was : f (get_or places s false) ≡ f true = ap f on in
    omega (arith, count_all places, count_all (set places s false), sum_by-set f places s false false within, was)

-- one is left out
pub not_all : (places : List Bool) (s : ℕ) → s < length places → is_in places s ≡ false → length (slots_of places) < length places
not_all places s within off =
    omega (arith, one_more places s within off, count_le (length (set places s true)) (set places s true), length-set places s true)

no_fewer : (a b : Bool) → (a ≡ true → b ≡ true) → cond a 1 0 ≤ cond b 1 0
no_fewer true true h = omega arith
no_fewer true false h = absurd (false≢true (h refl))
no_fewer false true h = omega arith
no_fewer false false h = omega arith

below_within : (n : ℕ) (a b : List Bool) → ((s : ℕ) → is_in a s ≡ true → is_in b s ≡ true)
    → length (slots_below n a) ≤ length (slots_below n b)
below_within zero a b within = omega (arith, ap {A = List ℕ} {B = ℕ} length (slots_below-zero a))
below_within (suc n) a b within =
    omega (arith, count-suc n a, count-suc n b, below_within n a b within, no_fewer (is_in a n) (is_in b n) (within n))

-- what is in a set is no more than the set
pub count_within : (a b : List Bool) → length a ≡ length b → ((s : ℕ) → is_in a s ≡ true → is_in b s ≡ true)
    → length (slots_of a) ≤ length (slots_of b)
count_within a b long within = omega (arith, below_within (length b) a b within, ap (λ n. length (slots_below n a)) long)

all_below : (n : ℕ) (places : List Bool) → ((s : ℕ) → s < n → is_in places s ≡ true) → length (slots_below n places) ≡ n
all_below zero places all = ap {A = List ℕ} {B = ℕ} length (slots_below-zero places)
all_below (suc n) places all =
    omega (
      arith,
      count-suc n places,
      all_below n places (λ s h. all s (omega (arith, h))),
      ap {A = Bool} {B = ℕ} (λ b. cond b 1 0) (all n (omega arith)),
    )

-- a set that has all slots
pub all_counted : (places : List Bool) → ((s : ℕ) → s < length places → is_in places s ≡ true) → length (slots_of places) ≡ length places
all_counted places all = all_below (length places) places all

pub in_none : (n s : ℕ) → is_in (replicate n false) s ≡ false
in_none n s = elim (cases_lt s n) [
  | inl h ↦ get_or-replicate n s false false h
  | inr past ↦
      get_or_past (replicate n false) s false (omega (arith, length-replicate {A = Bool} n false))
]

none_below : (n : ℕ) (places : List Bool) → ((s : ℕ) → is_in places s ≡ false) → length (slots_below n places) ≡ 0
none_below zero places none = ap {A = List ℕ} {B = ℕ} length (slots_below-zero places)
none_below (suc n) places none =
    omega (arith, count-suc n places, none_below n places none, ap {A = Bool} {B = ℕ} (λ b. cond b 1 0) (none n))

-- the empty set
pub count_none : (n : ℕ) → length (slots_of (replicate n false)) ≡ 0
count_none n = none_below (length (replicate n false)) (replicate n false) (in_none n)
