-- The words up to the last that is not 0.
use Rattle.std.proofs.Common.{◌≡◌, ◌≢◌, ℕ, ◌+◌, ◌-◌, ◌*◌, ◌/◌, ◌%◌, ◌^◌, ◌<◌, ◌≤◌, true, false, eqb, List, length, get_or, take, sym, ◌∙◌}
use Rattle.std.proofs.Common.{ap, arith, w64}
use Rattle.std.proofs.lemmas.List.{get_or-take, length-take-le}
use Rattle.std.proofs.lemmas.Nat.Bits.{bit_at-trailing_zeros, bit_at-zero}
use Rattle.std.specs.Int.{trailing_zeros}
use Rattle.jlr_sets.specs.Bits.{is_bit, bits_of, IsTrimmedLen}
use Rattle.jlr_sets.specs.SlotSets.{is_in, slots_of, slots_below, IsTrimmed}
use Rattle.jlr_sets.proofs.Bits.{place_is, length-bits_of}
use Rattle.jlr_sets.proofs.Below.{slots_below_agree, slots_below_same}

-- the places of a word
row_place : (words : List ℕ) (at i : ℕ) → i < 64 → is_in (bits_of words) (at * 64 + i) ≡ is_bit (get_or words at 0) i
row_place words at i low =
    let row : (at * 64 + i) / 64 ≡ at = omega arith in
    let column : (at * 64 + i) % 64 ≡ i = omega arith in
    place_is words (at * 64 + i)
    ∙ ap (λ x. is_bit (get_or words x 0) ((at * 64 + i) % 64)) row
    ∙ ap (λ x. is_bit (get_or words at 0) x) column

-- a word that is not 0 has a bit
pub some_bit : (word : ℕ) → word < 2 ^ 64 → word ≢ 0 → (j : ℕ) × (j < 64) × (is_bit word j ≡ true)
some_bit word fits some =
    let h = bit_at-trailing_zeros w64 word (omega arith) fits in
    (trailing_zeros w64 word, h.0, ap (λ x. eqb x 1) h.1)

module _ (words : List ℕ) (n : ℕ) (so : IsTrimmedLen words n) where
  long : length (take n words) ≡ n
  long = length-take-le n words so.within

  same_below : (k : ℕ) → k < 64 * n → is_in (bits_of (take n words)) k ≡ is_in (bits_of words) k
  same_below k low = place_is (take n words) k ∙ ap (λ x. is_bit x (k % 64)) (get_or-take n words (k / 64) 0 (omega arith))
      ∙ sym (place_is words k)

  none_cut : (k : ℕ) → 64 * n ≤ k → is_in (bits_of words) k ≡ false
  none_cut k high = place_is words k ∙ ap (λ x. is_bit x (k % 64)) (so.zeros (k / 64) (omega arith))
      ∙ ap (λ x. eqb x 1) (bit_at-zero (k % 64))

  places_left : length (bits_of (take n words)) ≡ 64 * n
  places_left = length-bits_of (take n words) ∙ ap (λ x. 64 * x) long

  pub trimmed_slots : slots_of (bits_of (take n words)) ≡ slots_of (bits_of words)
  trimmed_slots =
      ap (λ x. slots_below x (bits_of (take n words))) places_left
      ∙ slots_below_agree (64 * n) (bits_of (take n words)) (bits_of words) same_below
      ∙ sym (slots_below_same (64 * n) (length (bits_of words)) (bits_of words) (let w = so.within in omega (arith, length-bits_of words))
      (λ k a b. none_cut k a))

  pub trimmed_is : IsTrimmed (bits_of (take n words))
  trimmed_is = record {
    whole = omega (arith, places_left);
    last = λ some.
        let more : 0 < n = omega (arith, places_left) in
        let top = so.last more in
        let low = top.1 in
        let at : ℕ = (n - 1) * 64 + top.0 in (
          (n - 1) * 64 + top.0,
          omega (arith, places_left),
          same_below ((n - 1) * 64 + top.0) (omega arith) ∙ row_place words (n - 1) top.0 low ∙ top.2,
        );
  }
