-- The places that are set in one set and not in another, as those of other words.
use Rattle.std.proofs.Common.{◌≡◌, ℕ, zero, suc, ◌-◌, ◌/◌, ◌%◌, ◌^◌, ◌<◌, ◌≤◌, Bool, true, false, not, ◌&&◌, eqb, List, length, map, get_or}
use Rattle.std.proofs.Common.{refl, sym, ◌∙◌, ap, take, inl, inr, arith, w64}
use Rattle.std.proofs.lemmas.Bool.{both_ways, cases_lt, false≢true}
use Rattle.std.proofs.lemmas.List.{get_or_past}
use Rattle.std.proofs.lemmas.List.FromFn.{length-map-range_with_len, get_or-map-range_with_len}
use Rattle.std.proofs.lemmas.Nat.Bits.{bit_at_and, bit_at_not, bit_at-lt}
use Rattle.std.specs.Int.{bit_at, bit_not}
use Rattle.std.specs.List.{range_with_len}
use Rattle.std.specs.Prelude.{bit_and, min}
use Rattle.jlr_sets.specs.Bits.{bits_of, is_bit, word_beyond}
use Rattle.jlr_sets.specs.SlotSets.{beyond, is_beyond, is_in}
use Rattle.jlr_sets.proofs.Assigning.{shown_place}
use Rattle.jlr_sets.proofs.Bits.{length-bits_of, place_is, same_bits}

-- what is beyond, word by word
abbrev pub words_beyond : List ℕ → List ℕ → List ℕ
words_beyond words others = map (word_beyond words others) (range_with_len 0 (length words))

pub length-words_beyond : (words others : List ℕ) → length (words_beyond words others) ≡ length words
length-words_beyond words others = length-map-range_with_len (word_beyond words others) 0 (length words)

pub word_there : (words others : List ℕ) (i : ℕ) → i < length words → get_or (words_beyond words others) i 0 ≡ word_beyond words others i
word_there words others i h = get_or-map-range_with_len (word_beyond words others) 0 (length words) i i 0 h (omega arith)

pub length-beyond : (places others : List Bool) → length (beyond places others) ≡ length places
unfolding beyond
length-beyond places others = length-map-range_with_len (is_beyond places others) 0 (length places)

-- a place that is set in the one and not in the other
pub in_beyond : (places others : List Bool) (k : ℕ) → is_in (beyond places others) k ≡ is_beyond places others k
unfolding beyond
in_beyond places others k = elim (cases_lt k (length places)) [
  | inl h ↦ get_or-map-range_with_len (is_beyond places others) 0 (length places) k k false h (omega arith)
  | inr past ↦
      get_or_past (beyond places others) k false (omega (arith, length-beyond places others))
      ∙ ap (λ b. b && not (is_in others k)) (sym (get_or_past places k false past))
]

both_bits : (a b : ℕ) → a < 2 → b < 2 → eqb (min a (1 - b)) 1 ≡ (eqb a 1 && not (eqb b 1))
both_bits zero zero h k = refl
both_bits zero (suc zero) h k = refl
both_bits zero (suc (suc b)) h k = absurd (omega (arith, k))
both_bits (suc zero) zero h k = refl
both_bits (suc zero) (suc zero) h k = refl
both_bits (suc zero) (suc (suc b)) h k = absurd (omega (arith, k))
both_bits (suc (suc a)) b h k = absurd (omega (arith, h))

bit_beyond : (word other i : ℕ) → other < 2 ^ 64 → i < 64
    → is_bit (bit_and word (bit_not w64 other)) i ≡ (is_bit word i && not (is_bit other i))
bit_beyond word other i fits low =
    ap (λ b. eqb b 1) (bit_at_and word (bit_not w64 other) i)
    ∙ ap (λ b. eqb (min (bit_at word i) b) 1) (bit_at_not w64 other i fits low)
    ∙ both_bits (bit_at word i) (bit_at other i) (bit_at-lt word i) (bit_at-lt other i)

pub beyond_is : (words others : List ℕ) → ((i : ℕ) → get_or others i 0 < 2 ^ 64)
    → beyond (bits_of words) (bits_of others) ≡ bits_of (words_beyond words others)
beyond_is words others fits =
    sym (same_bits (words_beyond words others) (beyond (bits_of words) (bits_of others))
    (omega (arith, length-words_beyond words others, length-beyond (bits_of words) (bits_of others), length-bits_of words))
    (λ k h.
    let within : k / 64 < length words = omega (arith, length-words_beyond words others) in
    let low : k % 64 < 64 = omega arith in
    ap (λ w. is_bit w (k % 64)) (word_there words others (k / 64) within)
    ∙ bit_beyond (get_or words (k / 64) 0) (get_or others (k / 64) 0) (k % 64) (fits (k / 64)) low
    ∙ ap (λ b. b && not (is_bit (get_or others (k / 64) 0) (k % 64))) (sym (place_is words k))
    ∙ ap (λ b. is_in (bits_of words) k && not b) (sym (place_is others k))
    ∙ sym (in_beyond (bits_of words) (bits_of others) k)))

left_holds : (a b : Bool) → (a && b) ≡ true → a ≡ true
left_holds true b h = refl
left_holds false b h = h

-- what is beyond is set in the one
pub is_set : (places others : List Bool) (k : ℕ) → is_in (beyond places others) k ≡ true → is_in places k ≡ true
is_set places others k h = left_holds (is_in places k) (not (is_in others k)) (sym (in_beyond places others k) ∙ h)

-- of sets of which only the first places are shown, the same is beyond
module _ (n : ℕ) (places : List Bool) (within : n ≤ length places) (low : (slot : ℕ) → is_in places slot ≡ true → slot < n)
    (m : ℕ) (others : List Bool) (within' : m ≤ length others) (low' : (slot : ℕ) → is_in others slot ≡ true → slot < m) where
  pub beyond_shown : (k : ℕ) → is_in (beyond (take n places) (take m others)) k ≡ is_in (beyond places others) k
  beyond_shown k =
      in_beyond (take n places) (take m others) k
      ∙ ap (λ b. b && not (is_in (take m others) k)) (shown_place n places within low k)
      ∙ ap (λ b. is_in places k && not b) (shown_place m others within' low' k)
      ∙ sym (in_beyond places others k)

-- ---- What is in one set and not in another

both_parts : (a b : Bool) → (a && not b) ≡ true → b ≡ false
both_parts true true h = absurd (both_ways false refl h)
both_parts true false h = refl
both_parts false b h = absurd (both_ways false refl h)

-- what is beyond a set is not in it
pub not_kept : (places others : List Bool) (s : ℕ) → is_in (beyond places others) s ≡ true → is_in others s ≡ false
not_kept places others s h = both_parts (is_in places s) (is_in others s) (sym (in_beyond places others s) ∙ h)

neither : (a b : Bool) → (a && not b) ≡ false → a ≡ true → b ≡ true
neither true true h k = refl
neither true false h k = absurd (false≢true (sym h))
neither false b h k = absurd (false≢true k)

pub kept_there : (places others : List Bool) (s : ℕ) → is_in (beyond places others) s ≡ false → is_in places s ≡ true
    → is_in others s ≡ true
kept_there places others s h k = neither (is_in places s) (is_in others s) (sym (in_beyond places others s) ∙ h) k
