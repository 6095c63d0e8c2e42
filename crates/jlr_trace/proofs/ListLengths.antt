-- How long a list may be: one without repeats below a number, and one whose keys have numbers of their own.
use Rattle.std.proofs.Common.{◌≡◌, ◌≢◌, ◌&&◌, ◌||◌, ◌<◌, ◌≤◌, ℕ, suc, Bool, true, false, cond, not, List, [], ◌∷◌, length, map, refl, sym}
use Rattle.std.proofs.Common.{ap, ◌∙◌, subst, inl, inr, arith, nat_lt, nat_eq, ◌==◌, Some, None, count_by}
use Rattle.std.specs.List.{IsDistinct, AllByRecursion}
use Rattle.std.proofs.lemmas.Bool.{both_ways, and_parts, eqb-true, eq-eqb, ltb-true, cond-true}
use Rattle.std.proofs.lemmas.List.Sums.{sum_by-cons}
use Rattle.std.proofs.lemmas.Map.Steps.{length-le_from_distinct_below}
use Rattle.jlr_machine.specs.Objects.{◌∈◌, ◌∋◌, is_distinct, is_rising, is_above}
use Rattle.jlr_laws.proofs.Keyed.{by_key, no_some}
use Rattle.jlr_laws.proofs.Sets.{in_front, in_rest, in_cons}
use Rattle.jlr_trace_fields.specs.Items.{Rises}

-- ---- Lists without repeats

or_gives : (a b : Bool) → (a || b) ≡ false → (a ≡ false) × (b ≡ false)
or_gives true b h = absurd (both_ways true h refl)
or_gives false b h = (refl, h)

apart : (x : ℕ) (ys : List ℕ) → (ys ∋ x) ≡ false → AllByRecursion (λ y. nat_eq x y ≡ false) ys
apart x [] h = tt
apart x (y ∷ ys) h = let both = or_gives (nat_eq x y) (ys ∋ x) h in (both.0, apart x ys both.1)

distinct_gives : (x : ℕ) (xs : List ℕ) → is_distinct (x ∷ xs) ≡ true → ((xs ∋ x) ≡ false) × (is_distinct xs ≡ true)
distinct_gives x xs h = elim (xs ∋ x) as (λ b. (not b && is_distinct xs) ≡ true → (b ≡ false) × (is_distinct xs ≡ true)) [
  | true ↦
      λ e. absurd (both_ways false refl e)
  | false ↦ λ e. (refl, e)
] h

distinct_from : (x : ℕ) (xs : List ℕ) → (xs ∋ x) ≡ false → is_distinct xs ≡ true → is_distinct (x ∷ xs) ≡ true
distinct_from x xs h d = subst (λ b. (not b && is_distinct xs) ≡ true) (sym h) d

as_distinct : (xs : List ℕ) → is_distinct xs ≡ true → IsDistinct nat_eq xs
unfolding IsDistinct
as_distinct [] h = tt
as_distinct (x ∷ xs) h = let both = distinct_gives x xs h in (apart x xs both.0, as_distinct xs both.1)

pub short : (xs : List ℕ) (n : ℕ) → is_distinct xs ≡ true → ((x : ℕ) → x ∈ xs → x < n) → length xs ≤ n
short xs n once below = length-le_from_distinct_below xs n (as_distinct xs once) below

-- ---- Rising lists

above_all : (s : ℕ) (xs : List ℕ) → is_above s xs ≡ true → is_rising xs ≡ true → (xs ∋ s) ≡ false
above_all s [] a r = refl
above_all s (x ∷ xs) a r =
    let here = and_parts (nat_lt s x) (is_above s xs) a in
    let rest = and_parts (is_above x xs) (is_rising xs) r in
    let lt : s < x = ltb-true s x here.0 in
    elim (nat_eq s x) as (λ b. nat_eq s x ≡ b → (b || (xs ∋ s)) ≡ false) [
      | true ↦ λ e. let same = eqb-true s x e in absurd (omega (arith, lt, same))
      | false ↦ λ e. above_all s xs here.1 rest.1
    ] refl

pub rising_distinct : (xs : List ℕ) → is_rising xs ≡ true → is_distinct xs ≡ true
rising_distinct [] r = refl
rising_distinct (x ∷ xs) r =
    let both = and_parts (is_above x xs) (is_rising xs) r in
    distinct_from x xs (above_all x xs both.0 both.1) (rising_distinct xs both.1)

module _ {A : Type 0} (key : A → ℕ) where
  rises_after : (before : ℕ) (xs : List A) → is_above before (map key xs) ≡ true → is_rising (map key xs) ≡ true
      → Rises key (Some before) xs
  rises_after before [] a r = tt
  rises_after before (x ∷ xs) a r =
      let here = and_parts (nat_lt before (key x)) (is_above before (map key xs)) a in
      let rest = and_parts (is_above (key x) (map key xs)) (is_rising (map key xs)) r in
      (here.0, rises_after (key x) xs rest.0 rest.1)

  pub rises : (xs : List A) → is_rising (map key xs) ≡ true → Rises key None xs
  rises [] r = tt
  rises (x ∷ xs) r =
      let rest = and_parts (is_above (key x) (map key xs)) (is_rising (map key xs)) r in
      (refl, rises_after (key x) xs rest.0 rest.1)

  -- ---- Elements found by their keys

  pub found_by : (xs : List A) (k : ℕ) → k ∈ map key xs → (x : A) × (by_key key xs k ≡ Some x) × (key x ≡ k)
  found_by [] k h = absurd (both_ways false refl h)
  found_by (x ∷ xs) k h =
      elim (key x == k) as (λ b. (key x == k) ≡ b → (y : A) × (cond b (Some x) (by_key key xs k) ≡ Some y) × (key y ≡ k)) [
        | true ↦ λ e. (x, refl, eqb-true (key x) k e)
        | false ↦ λ e. elim (in_cons k (key x) (map key xs) h) [
          | inl same ↦ absurd (both_ways (key x == k) e (eq-eqb (key x) k (sym same)))
          | inr later ↦ found_by xs k later
        ]
      ] refl

  pub counted_one : (p : A → Bool) (xs : List A) (a : ℕ) (x : A) → by_key key xs a ≡ Some x → p x ≡ true → 1 ≤ count_by p xs
  counted_one p [] a x e t = no_some x e
  counted_one p (y ∷ ys) a x e t =
      let f : A → ℕ = λ z. cond (p z) 1 0 in
      elim (key y == a) as (λ b. cond b (Some y) (by_key key ys a) ≡ Some x → 1 ≤ count_by p (y ∷ ys)) [
        | true ↦ λ g. let same : y ≡ x = cc g in let here : f y ≡ 1 = cond-true (p y) 1 0 (subst (λ z. p z ≡ true) (sym same) t) in
            omega (arith, sum_by-cons f y ys, here)
        | false ↦ λ g. let rest = counted_one p ys a x g t in omega (arith, sum_by-cons f y ys, rest)
      ] e

  -- two with keys of their own are counted twice
  pub counted_two : (p : A → Bool) (xs : List A) (a b : ℕ) (x y : A) → a ≢ b → by_key key xs a ≡ Some x → by_key key xs b ≡ Some y
      → p x ≡ true → p y ≡ true → 2 ≤ count_by p xs
  counted_two p [] a b x y d e g t u = no_some x e
  counted_two p (z ∷ zs) a b x y d e g t u =
      let f : A → ℕ = λ w. cond (p w) 1 0 in
      elim (key z == a) as (λ c. (key z == a) ≡ c → cond c (Some z) (by_key key zs a) ≡ Some x → 2 ≤ count_by p (z ∷ zs)) [
        | true ↦ λ is h.
            let same : z ≡ x = cc h in
            let here : f z ≡ 1 = cond-true (p z) 1 0 (subst (λ w. p w ≡ true) (sym same) t) in
            elim (key z == b) as (λ c. (key z == b) ≡ c → cond c (Some z) (by_key key zs b) ≡ Some y → 2 ≤ count_by p (z ∷ zs)) [
              | true ↦ λ also _. absurd (d (sym (eqb-true (key z) a is) ∙ eqb-true (key z) b also))
              | false ↦ λ _ k. let rest = counted_one p zs b y k u in omega (arith, sum_by-cons f z zs, here, rest)
            ] refl g
        | false ↦ λ is h.
            elim (key z == b) as (λ c. (key z == b) ≡ c → cond c (Some z) (by_key key zs b) ≡ Some y → 2 ≤ count_by p (z ∷ zs)) [
              | true ↦ λ also k.
                  let same : z ≡ y = cc k in
                  let here : f z ≡ 1 = cond-true (p z) 1 0 (subst (λ w. p w ≡ true) (sym same) u) in
                  let rest = counted_one p zs a x h t in
                  omega (arith, sum_by-cons f z zs, here, rest)
              | false ↦ λ _ k. let rest = counted_two p zs a b x y d h k t u in omega (arith, sum_by-cons f z zs, rest)
            ] refl g
      ] refl e

-- ---- Keys with numbers of their own

module _ (P : ℕ → ℕ → Type 0) (bound : ℕ) (one : (j k n : ℕ) → P j n → P k n → j ≡ k) where
  record Numbers (keys : List ℕ) : Type 0 where
    numbers : List ℕ
    size : length numbers ≡ length keys
    distinct : is_distinct numbers ≡ true
    below : (n : ℕ) → n ∈ numbers → n < bound
    from : (n : ℕ) → n ∈ numbers → (k : ℕ) × (k ∈ keys) × P k n

  numbers_of : (keys : List ℕ) → is_distinct keys ≡ true → ((k : ℕ) → k ∈ keys → (n : ℕ) × (n < bound) × P k n) → Numbers keys
  numbers_of [] d each = record {
    numbers = [];
    size = refl;
    distinct = refl;
    below = λ n h. absurd (both_ways false refl h);
    from = λ n h. absurd (both_ways false refl h);
  }
  numbers_of (k ∷ keys) d each =
      let both = distinct_gives k keys d in
      let rest = numbers_of keys both.1 (λ j h. each j (in_rest j k keys h)) in
      let here = each k (in_front k k keys refl) in
      let new : (rest.numbers ∋ here.0) ≡ false =
      elim (rest.numbers ∋ here.0) as (λ b. (rest.numbers ∋ here.0) ≡ b → b ≡ false) [
        | true ↦ λ e.
            let older = rest.from here.0 e in
            let same : older.0 ≡ k = one older.0 k here.0 older.2 here.2 in
            absurd (both_ways (keys ∋ k) both.0 (subst (λ j. j ∈ keys) same older.1))
        | false ↦ λ e. refl
      ] refl in
      record {
        numbers = here.0 ∷ rest.numbers;
        size = ap suc rest.size;
        distinct = distinct_from here.0 rest.numbers new rest.distinct;
        below = λ n h. elim (in_cons n here.0 rest.numbers h) [
          | inl same ↦ subst (λ j. j < bound) (sym same) here.1
          | inr later ↦
              rest.below n later
        ];
        from = λ n h. elim (in_cons n here.0 rest.numbers h) [
          | inl same ↦ (k, in_front k k keys refl, subst (λ j. P k j) (sym same) here.2)
          | inr later ↦ let older = rest.from n later in (older.0, in_rest older.0 k keys older.1, older.2)
        ];
      }

  pub at_most : (keys : List ℕ) → is_distinct keys ≡ true → ((k : ℕ) → k ∈ keys → (n : ℕ) × (n < bound) × P k n) → length keys ≤ bound
  at_most keys d each =
      let all = numbers_of keys d each in
      let few = short all.numbers bound all.distinct all.below in
      let size = all.size in
      omega (arith, few, size)
