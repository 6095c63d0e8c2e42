-- The slots below a number.
use Rattle.std.proofs.Common.{◌≡◌, ℕ, zero, suc, ◌+◌, ◌-◌, ◌<◌, ◌≤◌, Bool, true, false, cond, List, [], ◌∷◌, ◌++◌, length, refl, sym, ◌∙◌}
use Rattle.std.proofs.Common.{ap, arith, inl, inr, length-append}
use Rattle.std.specs.List.{range_with_len, filter}
use Rattle.std.proofs.lemmas.List.{append-nil, get_or_past}
use Rattle.std.proofs.lemmas.Bool.{cases_lt, false≢true}
use Rattle.std.proofs.lemmas.List.Elements.{filter-append}
use Rattle.jlr_sets.specs.SlotSets.{is_in, slots_below, NoneBetween}

range_more : (a n k : ℕ) → a + n ≡ k → range_with_len a (suc n) ≡ range_with_len a n ++ k ∷ []
range_more a zero k e = let same : a ≡ k = omega arith in ap {A = ℕ} {B = List ℕ} (λ x. x ∷ []) same
range_more a (suc n) k e = ap {A = List ℕ} {B = List ℕ} (λ l. a ∷ l) (range_more (a + 1) n k (omega arith))

-- a slot of the set has a place
pub within_places : (places : List Bool) (slot : ℕ) → is_in places slot ≡ true → slot < length places
within_places places slot set = elim (cases_lt slot (length places)) [
  | inl low ↦ low
  | inr past ↦ absurd (false≢true (sym (get_or_past places slot false past) ∙ set))
]

-- one more place
pub slots_below-suc : (n : ℕ) (places : List Bool) → slots_below (suc n) places ≡ slots_below n places ++ cond (is_in places n) (n ∷ []) []
unfolding slots_below
slots_below-suc n places =
    ap {A = List ℕ} {B = List ℕ} (filter (is_in places)) (range_more 0 n n (omega arith))
    ∙ filter-append (is_in places) (range_with_len 0 n) (n ∷ [])

pub slots_below-zero : (places : List Bool) → slots_below 0 places ≡ []
unfolding slots_below
slots_below-zero places = refl

-- one more place, which is set
pub slots_below_set : (n m : ℕ) (places : List Bool) → m ≡ n + 1 → is_in places n ≡ true → slots_below m places ≡ slots_below n places
    ++ n ∷ []
slots_below_set n m places e set =
    let next : m ≡ suc n = omega arith in
    ap (λ x. slots_below x places) next ∙ slots_below-suc n places
    ∙ ap {A = Bool} {B = List ℕ} (λ b. slots_below n places ++ cond b (n ∷ []) []) set

-- one more place, which is clear
pub slots_below_clear : (n : ℕ) (places : List Bool) → is_in places n ≡ false → slots_below (suc n) places ≡ slots_below n places
slots_below_clear n places clear =
    slots_below-suc n places ∙ ap {A = Bool} {B = List ℕ} (λ b. slots_below n places ++ cond b (n ∷ []) []) clear
    ∙ append-nil (slots_below n places)

-- more places, all clear
stays : (d from : ℕ) (places : List Bool) → NoneBetween places from (from + d) → slots_below (from + d) places ≡ slots_below from places
stays zero from places none = let e : from + 0 ≡ from = omega arith in ap (λ x. slots_below x places) e
stays (suc d) from places none =
    let e : from + suc d ≡ suc (from + d) = omega arith in
    ap (λ x. slots_below x places) e
    ∙ slots_below_clear (from + d) places (none (from + d) (omega arith) (omega arith))
    ∙ stays d from places (λ k a b. none k a (omega arith))

pub slots_below_same : (from to : ℕ) (places : List Bool) → from ≤ to → NoneBetween places from to
    → slots_below to places ≡ slots_below from places
slots_below_same from to places le none =
    let e : to ≡ from + (to - from) = omega arith in
    ap (λ x. slots_below x places) e ∙ stays (to - from) from places (λ k a b. none k a (omega arith))

-- only the places below the number matter
pub slots_below_agree : (n : ℕ) (a b : List Bool) → ((k : ℕ) → k < n → is_in a k ≡ is_in b k) → slots_below n a ≡ slots_below n b
slots_below_agree zero a b each = slots_below-zero a ∙ sym (slots_below-zero b)
slots_below_agree (suc n) a b each =
    slots_below-suc n a
    ∙ ap {A = List ℕ} {B = List ℕ} (λ l. l ++ cond (is_in a n) (n ∷ []) []) (slots_below_agree n a b (λ k h. each k (omega arith)))
    ∙ ap {A = Bool} {B = List ℕ} (λ x. slots_below n b ++ cond x (n ∷ []) []) (each n (omega arith))
    ∙ sym (slots_below-suc n b)

length_one : (b : Bool) (n : ℕ) → length (cond b (n ∷ []) []) ≡ cond b 1 0
length_one true n = refl
length_one false n = refl

-- how many one more place makes
pub count-suc : (n : ℕ) (places : List Bool) → length (slots_below (suc n) places) ≡ length (slots_below n places) + cond (is_in places n) 1
    0
count-suc n places =
    ap {A = List ℕ} {B = ℕ} length (slots_below-suc n places)
    ∙ length-append (slots_below n places) (cond (is_in places n) (n ∷ []) [])
    ∙ ap (λ x. length (slots_below n places) + x) (length_one (is_in places n) n)

one_le : (b : Bool) → cond b 1 0 ≤ 1
one_le true = omega arith
one_le false = omega arith

pub count_le : (n : ℕ) (places : List Bool) → length (slots_below n places) ≤ n
count_le zero places = omega (arith, ap {A = List ℕ} {B = ℕ} length (slots_below-zero places))
count_le (suc n) places = omega (arith, count-suc n places, count_le n places, one_le (is_in places n))
