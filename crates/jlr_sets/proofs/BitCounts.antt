-- The set bits of a word, counted.
use Rattle.std.proofs.Common.{◌≡◌, ℕ, zero, suc, ◌+◌, ◌*◌, ◌/◌, ◌%◌, ◌^◌, ◌<◌, ◌≤◌, Bool, cond, eqb, List, length, get_or, refl, ◌∙◌, ap}
use Rattle.std.proofs.Common.{arith, mod-eq_of_lt, mod-lt, pow_pos}
use Rattle.std.proofs.lemmas.Nat.{mod-pow-add}
use Rattle.std.specs.Int.{bit_at}
use Rattle.std.specs.Int.Count.{ones, ones_cat}
use Rattle.jlr_sets.specs.Bits.{is_bit, bits_of}
use Rattle.jlr_sets.specs.SlotSets.{is_in, slots_below}
use Rattle.jlr_sets.proofs.Bits.{place_is}
use Rattle.jlr_sets.proofs.Below.{count-suc, count_le}

ones_of_bit : (b : ℕ) → b < 2 → ones b ≡ cond (eqb b 1) 1 0
unfolding ones
ones_of_bit zero h = refl
ones_of_bit (suc zero) h = refl
ones_of_bit (suc (suc b)) h = absurd (omega arith)

-- one more bit
ones_more : (w j : ℕ) → ones (w % 2 ^ suc j) ≡ cond (is_bit w j) 1 0 + ones (w % 2 ^ j)
ones_more w j =
    let e : suc j ≡ 1 + j = omega arith in
    ap (λ x. ones (w % 2 ^ x)) e
    ∙ ap ones (mod-pow-add w 1 j)
    ∙ ones_cat j (bit_at w j) (w % 2 ^ j) (mod-lt w (pow_pos j))
    ∙ ap (λ x. x + ones (w % 2 ^ j)) (ones_of_bit (bit_at w j) (omega arith))

-- the first j bits of word i
counted : (words : List ℕ) (i j : ℕ) → j ≤ 64 → length (slots_below (64 * i + j) (bits_of words)) ≡ length
    (slots_below (64 * i) (bits_of words)) + ones (get_or words i 0 % 2 ^ j)
counted words i zero h =
    let e : 64 * i + 0 ≡ 64 * i = omega arith in
    let none : get_or words i 0 % 2 ^ 0 ≡ 0 = omega arith in
    let n : ones (get_or words i 0 % 2 ^ 0) ≡ 0 = ap ones none ∙ ones_of_bit 0 (omega arith) in
    let s = ap (λ x. length (slots_below x (bits_of words))) e in
    omega (arith, s, n)
counted words i (suc j) h =
    let w = get_or words i 0 in
    let at : ℕ = 64 * i + j in
    let e : 64 * i + suc j ≡ suc (64 * i + j) = omega arith in
    let row : (64 * i + j) / 64 ≡ i = omega arith in
    let column : (64 * i + j) % 64 ≡ j = omega arith in
    let here : is_in (bits_of words) (64 * i + j) ≡ is_bit (get_or words i 0) j =
    place_is words (64 * i + j)
    ∙ ap (λ x. is_bit (get_or words x 0) ((64 * i + j) % 64)) row
    ∙ ap (λ x. is_bit (get_or words i 0) x) column in
    let s = ap (λ x. length (slots_below x (bits_of words))) e in
    let one = ap {A = Bool} {B = ℕ} (λ b. cond b 1 0) here in
    omega (arith, s, one, count-suc (64 * i + j) (bits_of words), counted words i j (omega arith), ones_more (get_or words i 0) j)

-- a whole word more
pub counted_word : (words : List ℕ) (i n c : ℕ) → get_or words i 0 < 2 ^ 64 → n ≡ ones (get_or words i 0)
    → c ≡ length (slots_below (64 * i) (bits_of words))
    → (c + n ≡ length (slots_below (64 * (i + 1)) (bits_of words))) × (c + n ≤ 64 * (i + 1))
counted_word words i n c fits is so =
    let e : 64 * (i + 1) ≡ 64 * i + 64 = omega arith in
    let whole : ones (get_or words i 0 % 2 ^ 64) ≡ ones (get_or words i 0) = ap ones (mod-eq_of_lt fits) in
    let s = ap (λ x. length (slots_below x (bits_of words))) e in
    let all : c + n ≡ length (slots_below (64 * (i + 1)) (bits_of words)) = omega (arith, s, whole, counted words i 64 (omega arith)) in
    (all, omega (arith, all, count_le (64 * (i + 1)) (bits_of words)))
