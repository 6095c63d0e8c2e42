-- Words as places: lengths, places, and what writing a word does.
use Rattle.std.proofs.Common.{◌≡◌, ◌≢◌, ℕ, ◌*◌, ◌/◌, ◌%◌, ◌^◌, ◌<◌, ◌≤◌, Bool, true, false, eqb, List, length, replicate, get_or, set, sym}
use Rattle.std.proofs.Common.{◌∙◌, ap, inl, inr, arith, ext_get_or, length-set, get_or-set_same, get_or-set_other, eq-eqb, w64}
use Rattle.std.proofs.lemmas.List.{length-replicate, get_or-replicate, get_or_past}
use Rattle.std.proofs.lemmas.List.FromFn.{length-map-range_with_len, get_or-map-range_with_len}
use Rattle.std.proofs.lemmas.Bool.{cases_eq, cases_lt}
use Rattle.std.proofs.lemmas.Nat.Bits.{bit_at_set_same, bit_at_set_other, bit_at_clear_same, bit_at_clear_other, bit_at-zero}
use Rattle.std.specs.Prelude.{bit_and, bit_or}
use Rattle.std.specs.Int.{bit_at, bit_not, div_ceil}
use Rattle.std.proofs.lemmas.Grind.{div_ceil_times}
use Rattle.jlr_sets.specs.Bits.{bit_of, bits_of}

pub length-bits_of : (words : List ℕ) → length (bits_of words) ≡ 64 * length words
unfolding bits_of
length-bits_of words = length-map-range_with_len (bit_of words) 0 (64 * length words)

pub get_or-bits_of : (words : List ℕ) (k : ℕ) → k < 64 * length words → get_or (bits_of words) k false ≡ bit_of words k
unfolding bits_of
get_or-bits_of words k h = get_or-map-range_with_len (bit_of words) 0 (64 * length words) k k false h (omega arith)

-- past the words there is no bit
pub bit_of_past : (words : List ℕ) (k : ℕ) → 64 * length words ≤ k → bit_of words k ≡ false
bit_of_past words k h =
    let past : length words ≤ k / 64 = omega arith in
    ap (λ x. eqb (bit_at x (k % 64)) 1) (get_or_past words (k / 64) 0 past) ∙ ap (λ x. eqb x 1) (bit_at-zero (k % 64))

-- a place is a bit, also past the words
pub place_is : (words : List ℕ) (k : ℕ) → get_or (bits_of words) k false ≡ bit_of words k
place_is words k = elim (cases_lt k (64 * length words)) [
  | inl within ↦ get_or-bits_of words k within
  | inr past ↦ get_or_past (bits_of words) k false (omega (arith, length-bits_of words)) ∙ sym (bit_of_past words k past)
]

-- words with the same bits have the same places
pub same_bits : (words : List ℕ) (places : List Bool) → 64 * length words ≡ length places
    → ((k : ℕ) → k < 64 * length words → bit_of words k ≡ get_or places k false) → bits_of words ≡ places
same_bits words places len each =
    ext_get_or false _ _ (length-bits_of words ∙ len)
    (λ k h. let in' : k < 64 * length words = omega (arith, length-bits_of words) in get_or-bits_of words k in' ∙ each k in')

pub bits_of_zeros : (n : ℕ) → bits_of (replicate n 0) ≡ replicate (64 * n) false
bits_of_zeros n =
    let zeros : List ℕ = replicate n 0 in
    let len : length zeros ≡ n = length-replicate {A = ℕ} n 0 in
    same_bits zeros (replicate (64 * n) false) (omega (arith, len, length-replicate {A = Bool} (64 * n) false))
    (λ k h.
    ap (λ x. eqb (bit_at x (k % 64)) 1) (get_or-replicate n (k / 64) 0 0 (omega (arith, len)))
    ∙ ap (λ x. eqb x 1) (bit_at-zero (k % 64))
    ∙ sym (get_or-replicate (64 * n) k false false (omega (arith, len))))

-- a word is written that differs from the old one in one bit
pub one_bit_set : (words : List ℕ) (n word new : ℕ) (b : Bool) → n < 64 * length words → word ≡ get_or words (n / 64) 0
    → eqb (bit_at new (n % 64)) 1 ≡ b → ((i : ℕ) → i < 64 → i ≢ n % 64 → bit_at new i ≡ bit_at word i)
    → bits_of (set words (n / 64) new) ≡ set (bits_of words) n b
one_bit_set words n word v b within read here others =
    let len : length (set words (n / 64) v) ≡ length words = length-set words (n / 64) v in
    let n_in : n < length (bits_of words) = omega (arith, length-bits_of words) in
    let word_in : n / 64 < length words = omega arith in
    same_bits (set words (n / 64) v) (set (bits_of words) n b) (omega (arith, length-set (bits_of words) n b, length-bits_of words))
    (λ k k_in.
    elim (cases_eq k n) as (λ _. bit_of (set words (n / 64) v) k ≡ get_or (set (bits_of words) n b) k false) [
      | inl same ↦
          rw same
          (ap (λ x. eqb (bit_at x (n % 64)) 1) (get_or-set_same words (n / 64) v 0 word_in)
          ∙ here
          ∙ sym (get_or-set_same (bits_of words) n b false n_in))
      | inr other ↦
          (elim (cases_eq (k / 64) (n / 64)) as (λ _. bit_of (set words (n / 64) v) k ≡ bit_of words k) [
            | inl row ↦
                ap (λ x. eqb (bit_at (get_or (set words (n / 64) v) x 0) (k % 64)) 1) row
                ∙ ap (λ x. eqb (bit_at x (k % 64)) 1) (get_or-set_same words (n / 64) v 0 word_in)
                ∙ ap (λ x. eqb x 1) (others (k % 64) (omega arith) (omega arith))
                ∙ ap (λ x. eqb (bit_at x (k % 64)) 1) (read ∙ ap (λ x. get_or words x 0) (sym row))
            | inr apart ↦ ap (λ x. eqb (bit_at x (k % 64)) 1) (get_or-set_other words (n / 64) (k / 64) v 0 apart)
          ])
          ∙ sym (get_or-bits_of words k (omega arith))
          ∙ sym (get_or-set_other (bits_of words) n k b false other)
    ])

pub bits_of_set : (words : List ℕ) (n word : ℕ) → n < 64 * length words → word ≡ get_or words (n / 64) 0
    → bits_of (set words (n / 64) (bit_or word (1 * 2 ^ (n % 64) % 2 ^ 64))) ≡ set (bits_of words) n true
bits_of_set words n word within read =
    let low : n % 64 < 64 = omega arith in
    one_bit_set words n word (bit_or word (1 * 2 ^ (n % 64) % 2 ^ 64)) true within read
    (eq-eqb _ 1 (bit_at_set_same w64 word (n % 64) low))
    (λ i l apart. bit_at_set_other w64 word (n % 64) low i apart)

pub bits_of_cleared : (words : List ℕ) (n word : ℕ) → n < 64 * length words → word ≡ get_or words (n / 64) 0
    → bits_of (set words (n / 64) (bit_and word (bit_not w64 (1 * 2 ^ (n % 64) % 2 ^ 64)))) ≡ set (bits_of words) n false
bits_of_cleared words n word within read =
    let low : n % 64 < 64 = omega arith in
    let none : bit_at (bit_and word (bit_not w64 (1 * 2 ^ (n % 64) % 2 ^ 64))) (n % 64) ≡ 0 = bit_at_clear_same w64 word (n % 64) low in
    one_bit_set words n word (bit_and word (bit_not w64 (1 * 2 ^ (n % 64) % 2 ^ 64))) false within read
    (ap (λ x. eqb x 1) none)
    (λ i l apart. bit_at_clear_other w64 word (n % 64) low i l apart)

-- there is a place for each cell
pub room_for : (cells : ℕ) → cells ≤ 64 * div_ceil cells 64
room_for cells = omega (arith, div_ceil_times cells 64)
