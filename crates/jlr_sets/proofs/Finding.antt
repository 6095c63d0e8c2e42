-- The first set place in the words.
use Rattle.std.proofs.Common.{◌≡◌, ℕ, ◌+◌, ◌-◌, ◌*◌, ◌/◌, ◌%◌, ◌^◌, ◌<◌, ◌≤◌, Bool, true, false, eqb, List, length, get_or, sym, ◌∙◌, ap}
use Rattle.std.proofs.Common.{subst, inl, inr, arith, w64, shr-shr}
use Rattle.std.proofs.lemmas.Bool.{cases_lt}
use Rattle.std.proofs.lemmas.Nat.Bits.{bit_at-trailing_zeros, bit_at_above, bit_at-zero}
use Rattle.std.proofs.Math.Nat.{div-le_self, div-one}
use Rattle.std.specs.Int.{bit_at, trailing_zeros}
use Rattle.jlr_sets.specs.Bits.{is_bit, bits_of}
use Rattle.jlr_sets.specs.SlotSets.{is_in, NoneBetween, NoneFrom, IsFirstFrom}
use Rattle.jlr_sets.proofs.Bits.{place_is, bit_of_past}

-- the bits of what is left of a word after a shift
shifted : (word s i : ℕ) → bit_at (word / 2 ^ s) i ≡ bit_at word (s + i)
shifted word s i = ap (λ x. x % 2) (shr-shr word s i)

module _ (words : List ℕ) (from rest : ℕ) (fits : get_or words (from / 64) 0 < 2 ^ 64)
    (is : rest ≡ get_or words (from / 64) 0 / 2 ^ (from % 64)) where
  word : ℕ
  word = get_or words (from / 64) 0

  rest_at : (i : ℕ) → bit_at rest i ≡ bit_at word (from % 64 + i)
  unfolding word
  rest_at i = ap (λ x. bit_at x i) is ∙ shifted (get_or words (from / 64) 0) (from % 64) i

  -- a set bit of the rest is a set place
  pub in_rest : (t : ℕ) → bit_at rest t ≡ 1 → (from % 64 + t < 64) × (is_in (bits_of words) (from + t) ≡ true)
  unfolding word
  in_rest t set =
      let bit : bit_at (get_or words (from / 64) 0) (from % 64 + t) ≡ 1 = sym (rest_at t) ∙ set in
      let low : from % 64 + t < 64 =
      elim (cases_lt (from % 64 + t) 64) [
        | inl l ↦ l
        | inr high ↦
            (let none = bit_at_above (get_or words (from / 64) 0) 64 (from % 64 + t) fits high in absurd (omega arith))
      ] in
      let row : (from + t) / 64 ≡ from / 64 = omega arith in
      let column : (from + t) % 64 ≡ from % 64 + t = omega arith in (
        low,
        place_is words (from + t)
            ∙ ap (λ x. is_bit (get_or words x 0) ((from + t) % 64)) row
            ∙ ap (λ x. is_bit (get_or words (from / 64) 0) x) column
            ∙ ap (λ x. eqb x 1) bit,
      )

  -- a clear bit of the rest is a clear place
  pub not_in_rest : (k : ℕ) → from ≤ k → k / 64 ≡ from / 64 → bit_at rest (k - from) ≡ 0 → is_in (bits_of words) k ≡ false
  unfolding word
  not_in_rest k above row clear =
      let column : k % 64 ≡ from % 64 + (k - from) = omega arith in
      place_is words k
      ∙ ap (λ x. is_bit (get_or words x 0) (k % 64)) row
      ∙ ap (λ x. is_bit (get_or words (from / 64) 0) x) column
      ∙ ap (λ x. eqb x 1) (sym (rest_at (k - from)) ∙ clear)

  -- the lowest bit of the rest is the first place
  pub found : 0 < rest → rest < 2 ^ 64 → IsFirstFrom (bits_of words) from (from + trailing_zeros w64 rest)
  found some small =
      let t : ℕ = trailing_zeros w64 rest in
      let h = bit_at-trailing_zeros w64 rest some small in
      let here = in_rest t h.1 in
      record {
        at_least = omega arith;
        inside = here.1;
        none_before = λ k a b. let l = here.0 in not_in_rest k a (omega arith) (h.2 (k - from) (omega arith));
      }

  -- nothing is left: no place of this word
  pub none_left : rest ≡ 0 → (k : ℕ) → from ≤ k → k < 64 * (from / 64 + 1) → is_in (bits_of words) k ≡ false
  none_left none k a b = not_in_rest k a (omega arith) (ap (λ x. bit_at x (k - from)) none ∙ bit_at-zero (k - from))

-- none up to the middle, and then the first
pub further : (places : List Bool) (from mid slot : ℕ) → from ≤ mid → NoneBetween places from mid → IsFirstFrom places mid slot
    → IsFirstFrom places from slot
further places from mid slot le none first =
    let l = first.at_least in
    record {
      at_least = omega arith;
      inside = first.inside;
      none_before = λ k a b. elim (cases_lt k mid) [ inl low ↦ none k a low | inr high ↦ first.none_before k high b ];
    }

-- none up to the end of the words
pub none_at_all : (words : List ℕ) (from at : ℕ) → length words ≤ at → NoneBetween (bits_of words) from (64 * at)
    → NoneFrom (bits_of words) from
none_at_all words from at past none k a = elim (cases_lt k (64 * at)) [
  | inl low ↦ none k a low
  | inr high ↦ place_is words k ∙ bit_of_past words k (omega arith)
]

pub none_past : (words : List ℕ) (from : ℕ) → length words ≤ from / 64 → NoneFrom (bits_of words) from
none_past words from past k a = place_is words k ∙ bit_of_past words k (omega arith)

-- the first of a later word
pub found_in_word : (words : List ℕ) (from at word : ℕ) → from ≤ 64 * at → NoneBetween (bits_of words) from (64 * at)
    → word ≡ get_or words at 0 → word < 2 ^ 64 → 0 < word
    → IsFirstFrom (bits_of words) from (at * 64 + trailing_zeros w64 word)
found_in_word words from at word le none read fits some =
    let row : 64 * at / 64 ≡ at = omega arith in
    let column : 64 * at % 64 ≡ 0 = omega arith in
    let place : 64 * at + trailing_zeros w64 word ≡ at * 64 + trailing_zeros w64 word = omega arith in
    let small : get_or words (64 * at / 64) 0 < 2 ^ 64 = rw row (rw (sym read) fits) in
    let is : word ≡ get_or words (64 * at / 64) 0 / 2 ^ (64 * at % 64) = rw (row, column) (read ∙ sym (div-one _)) in
    subst (λ n. IsFirstFrom (bits_of words) from n) place
    (further (bits_of words) from (64 * at) _ le none (found words (64 * at) word small is some fits))

-- none in a later word
pub none_in_word : (words : List ℕ) (from at word : ℕ) → NoneBetween (bits_of words) from (64 * at) → word ≡ get_or words at 0 → word ≡ 0
    → NoneBetween (bits_of words) from (64 * (at + 1))
none_in_word words from at word none read zero k a b = elim (cases_lt k (64 * at)) [
  | inl low ↦ none k a low
  | inr high ↦
      let row : k / 64 ≡ at = omega arith in
      place_is words k ∙ ap (λ x. is_bit (get_or words x 0) (k % 64)) row ∙ ap (λ x. is_bit x (k % 64)) (sym read ∙ zero)
      ∙ ap (λ x. eqb x 1) (bit_at-zero (k % 64))
]

pub rest_fits : (word s : ℕ) → word < 2 ^ 64 → word / 2 ^ s < 2 ^ 64
rest_fits word s fits = omega (arith, div-le_self word (2 ^ s))
