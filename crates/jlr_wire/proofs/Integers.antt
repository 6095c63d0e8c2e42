-- An integer of 64 bits and its text.
use Rattle.std.proofs.Common.{◌≡◌, ℕ, ◌<◌, ◌^◌, suc, true, false, List, get_or, Option, Some, None, IfSome, IfNone, refl, sym, ap, ◌∙◌}
use Rattle.std.proofs.Common.{arith}
use Rattle.std.specs.Prelude.{ℤ, pos, negsuc, neg_ℤ, FitsSigned, decimal}
use Rattle.std.specs.Int.{w64}
use Rattle.std.specs.Fmt.{signed_decimal}
use Rattle.std.specs.Str.{bytes_eq}
use Rattle.std.specs.Str.Parse.{digits_value, signed_digits_value, starts_with_minus, without_leading_plus}
use Rattle.std.proofs.lemmas.Slice.Eq.{bytes_eq-Decides}
use Rattle.std.proofs.lemmas.Fmt.{decimal_is_IsNumeral}
use Rattle.std.proofs.lemmas.Str.Parse.{digit_at, without_leading_plus_none}
use Rattle.std.proofs.lemmas.Option.{cond_some}
use Rattle.std.proofs.lemmas.Bool.{ltb-true, lt-ltb, ne_eqb}
use Rattle.jlr_wire.proofs.Options.{and_parts}
use Rattle.jlr_wire.specs.Fields.{fits_64_bits, if_spelled, integer_of}

-- the first byte of a decimal number is no sign
first_is_digit : (n : ℕ) → n < 2 ^ 64 → 47 < get_or (decimal n) 0 0
first_is_digit n lt =
    let own = (decimal_is_IsNumeral n lt).0 in
    let first = digit_at (decimal n) 0 own.1 own.0 in
    omega (arith, first)

no_minus : (n : ℕ) → n < 2 ^ 64 → starts_with_minus (decimal n) ≡ false
no_minus n lt = ne_eqb _ 45 (λ e. omega (arith, e, first_is_digit n lt))

no_plus : (n : ℕ) → n < 2 ^ 64 → without_leading_plus (decimal n) ≡ decimal n
no_plus n lt = without_leading_plus_none (decimal n) (λ e. omega (arith, e, first_is_digit n lt))

-- the text of an integer has that integer's value
value_of_text : (z : ℤ) → FitsSigned w64 z → signed_digits_value 10 (signed_decimal z) ≡ z
value_of_text (pos n) fits =
    let small : n < 2 ^ 64 = omega (arith, fits.sfits) in
    let value : digits_value 10 (decimal n) ≡ n = (decimal_is_IsNumeral n small).1 in
    rw (no_minus n small, no_plus n small, value) refl
value_of_text (negsuc n) fits =
    let value : digits_value 10 (decimal (suc n)) ≡ suc n = (decimal_is_IsNumeral (suc n) (omega (arith, fits.sfits))).1 in
    ap (λ v. neg_ℤ (pos v)) value

fits_from_test : (z : ℤ) → fits_64_bits z ≡ true → FitsSigned w64 z
fits_from_test (pos n) e = record { sfits = ltb-true n (2 ^ 63) e }
fits_from_test (negsuc n) e = record { sfits = ltb-true n (2 ^ 63) e }

test_from_fits : (z : ℤ) → FitsSigned w64 z → fits_64_bits z ≡ true
test_from_fits (pos n) fits = lt-ltb n (2 ^ 63) fits.sfits
test_from_fits (negsuc n) fits = lt-ltb n (2 ^ 63) fits.sfits

pub integer_of_decimal : (z : ℤ) → FitsSigned w64 z → integer_of (signed_decimal z) ≡ Some z
unfolding integer_of
integer_of_decimal z fits =
    let same : bytes_eq (signed_decimal z) (signed_decimal z) ≡ true = (bytes_eq-Decides (signed_decimal z) (signed_decimal z)).1 refl in
    let own : if_spelled z (signed_decimal z) ≡ Some z = rw (test_from_fits z fits, same) refl in
    ap (λ v. if_spelled v (signed_decimal z)) (value_of_text z fits) ∙ own

pub integer_of_spells : (text : List ℕ) (z : ℤ) → integer_of text ≡ Some z → FitsSigned w64 z × (text ≡ signed_decimal z)
unfolding integer_of
integer_of_spells text z e =
    let v = signed_digits_value 10 text in
    let h = cond_some _ _ _ e in
    let both = and_parts (fits_64_bits v) (bytes_eq (signed_decimal v) text) h.0 in
    let text_is : signed_decimal v ≡ text = (bytes_eq-Decides (signed_decimal v) text).0 both.1 in
    (rw (← h.1) (fits_from_test v both.0), sym text_is ∙ ap signed_decimal h.1)

pub is_integer_of : (r : Option ℤ) (text : List ℕ) → IfSome r (λ z. FitsSigned w64 z) → IfSome r (λ z. text ≡ signed_decimal z)
    → IfNone r ((z : ℤ) → FitsSigned w64 z → text ≡ signed_decimal z → ⊥) → r ≡ integer_of text
is_integer_of (Some z) text fits e none = rw e (sym (integer_of_decimal z fits))
is_integer_of None text fits e none =
    elim (integer_of text) as (λ o. integer_of text ≡ o → None ≡ o) [
      | None ↦ λ _. refl
      | Some z ↦ λ is. let s = integer_of_spells text z is in absurd (none z s.0 s.1)
    ] refl
