-- The places that are not set, as those of other words.
use Rattle.std.proofs.Common.{◌≡◌, ℕ, zero, suc, ◌-◌, ◌/◌, ◌%◌, ◌^◌, ◌<◌, ◌≤◌, Bool, true, false, not, eqb, List, length, map, get_or, refl}
use Rattle.std.proofs.Common.{sym, ◌∙◌, ap, take, inl, inr, arith, w64}
use Rattle.std.proofs.lemmas.Bool.{cases_lt, false≢true, both_ways}
use Rattle.std.proofs.lemmas.List.{get_or_past, get_or-map, get_or-take, length-map, length-take-le}
use Rattle.std.proofs.lemmas.List.FromFn.{length-map-range_with_len, get_or-map-range_with_len}
use Rattle.std.proofs.lemmas.Nat.Bits.{bit_at_not, bit_at-lt}
use Rattle.std.specs.Int.{bit_at, bit_not}
use Rattle.std.specs.List.{range_with_len}
use Rattle.jlr_sets.specs.Bits.{bits_of, is_bit, word_absent}
use Rattle.jlr_sets.specs.SlotSets.{absent, is_in, IsFirstFrom, NoneFrom}
use Rattle.jlr_sets.proofs.Bits.{length-bits_of, place_is, same_bits}

-- what is absent, word by word
abbrev pub words_absent : List ℕ → List ℕ
words_absent words = map (word_absent words) (range_with_len 0 (length words))

pub length-words_absent : (words : List ℕ) → length (words_absent words) ≡ length words
length-words_absent words = length-map-range_with_len (word_absent words) 0 (length words)

pub absent_word : (words : List ℕ) (i : ℕ) → i < length words → get_or (words_absent words) i 0 ≡ word_absent words i
absent_word words i h = get_or-map-range_with_len (word_absent words) 0 (length words) i i 0 h (omega arith)

pub length-absent : (places : List Bool) → length (absent places) ≡ length places
unfolding absent
length-absent places = length-map places not

pub in_absent : (places : List Bool) (k : ℕ) → k < length places → is_in (absent places) k ≡ not (is_in places k)
unfolding absent
in_absent places k h = get_or-map not places k false false h

pub absent_past : (places : List Bool) (k : ℕ) → length places ≤ k → is_in (absent places) k ≡ false
absent_past places k past = get_or_past (absent places) k false (omega (arith, length-absent places))

other_bit : (b : ℕ) → b < 2 → eqb (1 - b) 1 ≡ not (eqb b 1)
other_bit zero h = refl
other_bit (suc zero) h = refl
other_bit (suc (suc b)) h = absurd (omega (arith, h))

bit_absent : (word i : ℕ) → word < 2 ^ 64 → i < 64 → is_bit (bit_not w64 word) i ≡ not (is_bit word i)
bit_absent word i fits low = ap (λ b. eqb b 1) (bit_at_not w64 word i fits low) ∙ other_bit (bit_at word i) (bit_at-lt word i)

pub absent_is : (words : List ℕ) → ((i : ℕ) → get_or words i 0 < 2 ^ 64) → absent (bits_of words) ≡ bits_of (words_absent words)
absent_is words fits =
    sym (same_bits (words_absent words) (absent (bits_of words))
    (omega (arith, length-words_absent words, length-absent (bits_of words), length-bits_of words))
    (λ k h.
    let within : k / 64 < length words = omega (arith, length-words_absent words) in
    let here : k < length (bits_of words) = omega (arith, length-words_absent words, length-bits_of words) in
    let low : k % 64 < 64 = omega arith in
    ap (λ w. is_bit w (k % 64)) (absent_word words (k / 64) within)
    ∙ bit_absent (get_or words (k / 64) 0) (k % 64) (fits (k / 64)) low
    ∙ ap not (sym (place_is words k))
    ∙ sym (in_absent (bits_of words) k here)))

pub not_set : (b : Bool) → not b ≡ true → b ≡ false
not_set true h = absurd (false≢true h)
not_set false h = refl

pub set_if : (b : Bool) → not b ≡ false → b ≡ true
set_if true h = refl
set_if false h = absurd (false≢true (sym h))

-- an absent place is one of the places, and not set
pub within_absent : (places : List Bool) (k : ℕ) → is_in (absent places) k ≡ true → k < length places
within_absent places k h = elim (cases_lt k (length places)) [
  | inl low ↦ low
  | inr past ↦
      absurd (both_ways (is_in (absent places) k) (absent_past places k past) h)
]

pub is_clear : (places : List Bool) (k : ℕ) → is_in (absent places) k ≡ true → is_in places k ≡ false
is_clear places k h = not_set (is_in places k) (sym (in_absent places k (within_absent places k h)) ∙ h)

-- a place that is not absent is set
pub none_absent : (places : List Bool) (k : ℕ) → k < length places → is_in (absent places) k ≡ false → is_in places k ≡ true
none_absent places k low h = set_if (is_in places k) (sym (in_absent places k low) ∙ h)

-- ---- A set of which only the first places are shown

module _ (n : ℕ) (places : List Bool) (within : n ≤ length places) where
  long : length (take n places) ≡ n
  long = length-take-le n places within

  pub absent_shown : (k : ℕ) → k < n → is_in (absent (take n places)) k ≡ is_in (absent places) k
  absent_shown k low =
      in_absent (take n places) k (omega (arith, low, long))
      ∙ ap not (get_or-take n places k false low)
      ∙ sym (in_absent places k (omega (arith, low, within)))

  pub first_shown : (from place : ℕ) → place < n → IsFirstFrom (absent places) from place → IsFirstFrom (absent (take n places)) from place
  first_shown from place low first = record {
    at_least = first.at_least;
    inside = absent_shown place low ∙ first.inside;
    none_before = λ k a b. absent_shown k (omega (arith, low, b)) ∙ first.none_before k a b;
  }

  pub none_shown : (from : ℕ) → ((k : ℕ) → from ≤ k → k < n → is_in (absent places) k ≡ false) → NoneFrom (absent (take n places)) from
  none_shown from none = λ k a. elim (cases_lt k n) [
    | inl low ↦ absent_shown k low ∙ none k a low
    | inr past ↦ absent_past (take n places) k (omega (arith, past, long))
  ]
