-- A number below a limit and its text.
use Rattle.std.proofs.Common.{◌≡◌, ℕ, [], ◌∷◌, ◌+◌, ◌*◌, ◌<◌, ◌≤◌, ◌^◌, true, nat_lt, List, Option, Some, None, Result, Ok, Err, IfSome}
use Rattle.std.proofs.Common.{IfNone, refl, sym, ap, ◌∙◌, arith}
use Rattle.std.specs.Prelude.{decimal}
use Rattle.std.specs.Result.{OkIff, result_ok}
use Rattle.std.specs.Str.{bytes_eq}
use Rattle.std.specs.Str.Parse.{digits_value}
use Rattle.std.proofs.lemmas.Slice.Eq.{bytes_eq-Decides}
use Rattle.std.specs.Prelude.{length, slice_index_or, ◌/◌}
use Rattle.std.proofs.lemmas.Fmt.{decimal_digit, decimal_is_IsNumeral, decimal_injective}
use Rattle.itoa.proofs.Decimal.{decimal_two}
use Rattle.std.proofs.lemmas.Option.{cond_some, none-some}
use Rattle.std.proofs.lemmas.Bool.{ltb-true, lt-ltb}
use Rattle.jlr_wire.proofs.Options.{and_parts}
use Rattle.jlr_wire.specs.Fields.{number_below, byte_of, note_of}

pub number_below_decimal : (limit n : ℕ) → limit ≤ 2 ^ 64 → n < limit → number_below limit (decimal n) ≡ Some n
unfolding number_below
number_below_decimal limit n le lt =
    let value : digits_value 10 (decimal n) ≡ n = (decimal_is_IsNumeral n (omega (arith, le, lt))).1 in
    let small : nat_lt n limit ≡ true = lt-ltb n limit lt in
    let same : bytes_eq (decimal n) (decimal n) ≡ true = (bytes_eq-Decides (decimal n) (decimal n)).1 refl in
    simp (value, small, same) refl

pub number_below_spells : (limit : ℕ) (text : List ℕ) (n : ℕ) → number_below limit text ≡ Some n → (n < limit) × (text ≡ decimal n)
unfolding number_below
number_below_spells limit text n e =
    let v = digits_value 10 text in
    let h = cond_some _ _ _ e in
    let both = and_parts (nat_lt v limit) (bytes_eq (decimal v) text) h.0 in
    let text_is : decimal v ≡ text = (bytes_eq-Decides (decimal v) text).0 both.1 in
    (rw (← h.1) (ltb-true v limit both.0), sym text_is ∙ ap decimal h.1)

pub byte_of_decimal : (n : ℕ) → n < 256 → byte_of (decimal n) ≡ Some n
byte_of_decimal n lt = number_below_decimal 256 n (omega arith) lt

pub byte_of_spells : (text : List ℕ) (n : ℕ) → byte_of text ≡ Some n → (n < 256) × (text ≡ decimal n)
byte_of_spells = number_below_spells 256

pub note_of_decimal : (n : ℕ) → n < 2 ^ 32 → note_of (decimal n) ≡ Some n
note_of_decimal n lt = number_below_decimal (2 ^ 32) n (omega arith) lt

pub note_of_spells : (text : List ℕ) (n : ℕ) → note_of text ≡ Some n → (n < 2 ^ 32) × (text ≡ decimal n)
note_of_spells = number_below_spells (2 ^ 32)

is_number_below : (limit : ℕ) (r : Option ℕ) (text : List ℕ) → limit ≤ 2 ^ 64 → IfSome r (λ n. n < limit) → IfSome r (λ n. text ≡ decimal n)
    → IfNone r ((n : ℕ) → n < limit → text ≡ decimal n → ⊥) → r ≡ number_below limit text
is_number_below limit (Some n) text le lt e none = rw e (sym (number_below_decimal limit n le lt))
is_number_below limit None text le lt e none =
    elim (number_below limit text) as (λ o. number_below limit text ≡ o → None ≡ o) [
      | None ↦ λ _. refl
      | Some n ↦ λ is. let s = number_below_spells limit text n is in absurd (none n s.0 s.1)
    ] refl

pub is_note_of : (r : Option ℕ) (text : List ℕ) → IfSome r (λ n. n < 2 ^ 32) → IfSome r (λ n. text ≡ decimal n)
    → IfNone r ((n : ℕ) → n < 2 ^ 32 → text ≡ decimal n → ⊥) → r ≡ note_of text
is_note_of r text lt e none = is_number_below (2 ^ 32) r text (omega arith) lt e none

-- a text of no number below 2 ^ 32 is none of one below 256
pub no_byte : (text : List ℕ) → None ≡ note_of text → None ≡ byte_of text
no_byte text e = is_number_below 256 None text (omega arith) tt tt
    (λ n lt is. none-some n (e ∙ ap note_of is ∙ note_of_decimal n (omega (arith, lt))))

-- a number below 2 ^ 32 that is below 256, or is not
pub narrowed : {E : Type 0} (r : Result ℕ E) (text : List ℕ) (n : ℕ) → Some n ≡ note_of text → OkIff r (n < 256) n
    → result_ok r ≡ byte_of text
narrowed (Ok m) text n e is =
    let s = note_of_spells text n (sym e) in
    ap Some is.1 ∙ is_number_below 256 (Some n) text (omega arith) is.0 s.1 tt
narrowed (Err f) text n e large =
    let s = note_of_spells text n (sym e) in
    is_number_below 256 None text (omega arith) tt tt
    (λ m lt same. let own : n ≡ m = decimal_injective n m (omega (arith, s.0)) (omega (arith, lt)) (sym s.1 ∙ same) in
    large (omega (arith, own, lt)))

-- a text of one digit, and of two without a leading zero
pub one_digit : (text : List ℕ) (ones : ℕ) → length text ≡ 1 → ones + 48 ≡ slice_index_or text 0 0 → ones < 10 → text ≡ decimal ones
one_digit [] ones count is lt = absurd (omega (arith, count))
one_digit (a ∷ []) ones count is lt = ap (λ x. x ∷ []) (omega (arith, is)) ∙ sym (decimal_digit ones lt)
one_digit (a ∷ b ∷ text) ones count is lt = absurd (omega (arith, count))

pub two_digits : (text : List ℕ) (tens ones : ℕ) → length text ≡ 2 → tens + 48 ≡ slice_index_or text 0 0
    → ones + 48 ≡ slice_index_or text 1 0
    → 0 < tens → tens < 10 → ones < 10 → text ≡ decimal (10 * tens + ones)
two_digits [] tens ones count is is' some lt lt' = absurd (omega (arith, count))
two_digits (a ∷ []) tens ones count is is' some lt lt' = absurd (omega (arith, count))
two_digits (a ∷ b ∷ []) tens ones count is is' some lt lt' =
    ap (λ x. x ∷ b ∷ []) (omega (arith, is)) ∙ ap (λ x. (48 + (10 * tens + ones) / 10) ∷ x ∷ []) (omega (arith, is'))
    ∙ sym (decimal_two (10 * tens + ones) (omega arith) (omega arith))
two_digits (a ∷ b ∷ d ∷ text) tens ones count is is' some lt lt' = absurd (omega (arith, count))

pub decimal_note : (text : List ℕ) (n : ℕ) → n < 2 ^ 32 → text ≡ decimal n → Some n ≡ note_of text
decimal_note text n lt is = sym (ap note_of is ∙ note_of_decimal n lt)

-- a text of no number below 2 ^ 32 is none of one below a smaller limit, nor is one of a larger number
pub none_below : (limit : ℕ) (text : List ℕ) → limit ≤ 2 ^ 32 → None ≡ note_of text → None ≡ number_below limit text
none_below limit text le e = is_number_below limit None text (omega (arith, le)) tt tt
    (λ n lt is. none-some n (e ∙ ap note_of is ∙ note_of_decimal n (omega (arith, lt, le))))

pub some_below : (limit : ℕ) (text : List ℕ) (n : ℕ) → limit ≤ 2 ^ 32 → Some n ≡ note_of text → n < limit → Some n ≡ number_below limit text
some_below limit text n le e lt = is_number_below limit (Some n) text (omega (arith, le)) lt (note_of_spells text n (sym e)).1 tt

pub above_none : (limit : ℕ) (text : List ℕ) (n : ℕ) → limit ≤ 2 ^ 32 → Some n ≡ note_of text → limit ≤ n → None ≡ number_below limit text
above_none limit text n le e large =
    let s = note_of_spells text n (sym e) in
    is_number_below limit None text (omega (arith, le)) tt tt
    (λ m lt same. let own : n ≡ m = decimal_injective n m (omega (arith, s.0)) (omega (arith, lt, le)) (sym s.1 ∙ same) in
    omega (arith, own, lt, large))
