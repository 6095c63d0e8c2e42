-- A command has one spelling, but for the case of hexadecimal digits.
use Rattle.std.proofs.Common.{◌≡◌, ℕ, zero, suc, ◌+◌, ◌*◌, ◌/◌, ◌%◌, ◌<◌, ◌==◌, Bool, true, false, ◌&&◌, List, [], ◌∷◌, ◌++◌, map}
use Rattle.std.proofs.Common.{slice_index, Option, Some, None, Result, Ok, Err, refl, sym, ap, subst, ◌∙◌, arith, inl, inr}
use Rattle.std.specs.Prelude.{codes, decimal}
use Rattle.std.specs.List.{join_with_byte}
use Rattle.std.specs.Char.{to_ascii_lowercase}
use Rattle.std.specs.Result.{result_unwrap_or}
use Rattle.std.proofs.lemmas.List.{map-append}
use Rattle.std.proofs.lemmas.Bool.{cases_lt, eqb-true, false≢true}
use Rattle.std.proofs.lemmas.Option.{same_Some}
use Rattle.hex.specs.Hex.{hex_digit_value, digit_or_error, value_at, pair_value, decode_pairs, decode_of, encode_with, encode_lower}
use Rattle.hex.specs.Hex.{lower_digits, ◌>>=◌}
use Rattle.hex.specs.declared.error.FromHexError.{FromHexError}
use Rattle.hex.proofs.HexLemmas.{decode_of-ok, decode_of-even}
use Rattle.jlr_wire.proofs.Options.{and_parts}
use Rattle.jlr_wire.proofs.Exact.{command_is_read, one_form}
use Rattle.jlr_wire.specs.Commands.{IsCommand}
use Rattle.jlr_wire.specs.Spelling.{has_digits}
use Rattle.jlr_wire.specs.declared.command.Command.{Command}
use Rattle.jlr_wire.specs.declared.command.Command.TheVariants.{Write}

-- ---- digits in small letters

-- the digit c of this value is, in small letters, the one of that place
abbrev agrees : ℕ → Option ℕ → Bool
agrees c (Some v) = to_ascii_lowercase c == slice_index lower_digits v
agrees c None = true

abbrev all_agree : ℕ → Bool
all_agree zero = true
all_agree (suc n) = agrees n (hex_digit_value n) && all_agree n

agrees_at : (n k : ℕ) → all_agree n ≡ true → k < n → agrees k (hex_digit_value k) ≡ true
agrees_at zero k h lt = absurd (omega (arith, lt))
agrees_at (suc n) k h lt =
    let parts = and_parts (agrees n (hex_digit_value n)) (all_agree n) h in
    elim (cases_lt k n) [
      | inl below ↦ agrees_at n k parts.1 below
      | inr top ↦ let e : k ≡ n = omega (arith, lt, top) in rw e parts.0
    ]

is_below : (c v : ℕ) → hex_digit_value c ≡ Some v → c < 103
is_below c v e = grind (arith)

value_small : (c v : ℕ) → hex_digit_value c ≡ Some v → v < 16
value_small c v e = grind (arith)

in_small : (c v : ℕ) → hex_digit_value c ≡ Some v → to_ascii_lowercase c ≡ slice_index lower_digits v
in_small c v e = let h = agrees_at 103 c refl (is_below c v e) in eqb-true _ _ (rw e at h)

then_ok : {A B : Type 0} (r : Result A FromHexError) (f : A → Result B FromHexError) (y : B) → (r >>= f) ≡ Ok y → (x : A) × (r ≡ Ok x)
    × (f x ≡ Ok y)
then_ok (Ok x) f y e = (x, refl, e)
then_ok (Err f) g y e = cc e

value_of : (c i : ℕ) (o : Option ℕ) (v : ℕ) → digit_or_error c i o ≡ Ok v → o ≡ Some v
value_of c i (Some w) v e = ap Some (ap (λ (r : Result ℕ FromHexError). result_unwrap_or r 0) e)
value_of c i None v e = cc e

small_pairs : (i : ℕ) (text bytes : List ℕ) → decode_pairs i text ≡ Ok bytes → map to_ascii_lowercase text ≡ encode_lower bytes
unfolding decode_pairs encode_with
small_pairs i [] bytes e =
    let none : [] ≡ bytes = ap (λ (r : Result (List ℕ) FromHexError). result_unwrap_or r []) e in
    rw (← none) refl
small_pairs i (a ∷ []) bytes e = cc e
small_pairs i (a ∷ b ∷ rest) bytes e =
    let pair = then_ok (pair_value a b i) _ bytes e in
    let high = then_ok (value_at a i) _ pair.0 pair.1 in
    let low = then_ok (value_at b (i + 1)) _ pair.0 high.2 in
    let more = then_ok (decode_pairs (i + 2) rest) _ bytes pair.2 in
    let whole : pair.0 ∷ more.0 ≡ bytes = ap (λ (r : Result (List ℕ) FromHexError). result_unwrap_or r []) more.2 in
    let byte : high.0 * 16 + low.0 ≡ pair.0 = ap (λ (r : Result ℕ FromHexError). result_unwrap_or r 0) low.2 in
    let first = value_of a i (hex_digit_value a) high.0 high.1 in
    let second = value_of b (i + 1) (hex_digit_value b) low.0 low.1 in
    let fits = value_small b low.0 second in
    let front : pair.0 / 16 ≡ high.0 = omega (arith, byte, fits) in
    let back : pair.0 % 16 ≡ low.0 = omega (arith, byte, fits) in
    rw (← whole) (rw (front, back, in_small a high.0 first, in_small b low.0 second, small_pairs (i + 2) rest more.0 more.1) refl)

small_digits : (text bytes : List ℕ) → decode_of text ≡ Ok bytes → map to_ascii_lowercase text ≡ encode_lower bytes
small_digits text bytes e = small_pairs 0 text bytes (sym (decode_of-even text (decode_of-ok text bytes e).0) ∙ e)

-- ---- lines

small_join : (w h x y : List ℕ) → map to_ascii_lowercase x ≡ map to_ascii_lowercase y
    → map to_ascii_lowercase (join_with_byte 32 (w ∷ h ∷ x ∷ [])) ≡ map to_ascii_lowercase (join_with_byte 32 (w ∷ h ∷ y ∷ []))
small_join w h x y e =
    map-append to_ascii_lowercase w (32 ∷ (h ++ 32 ∷ x))
    ∙ ap (λ t. map to_ascii_lowercase w ++ 32 ∷ t)
    (map-append to_ascii_lowercase h (32 ∷ x)
    ∙ ap (λ t. map to_ascii_lowercase h ++ 32 ∷ t) e
    ∙ sym (map-append to_ascii_lowercase h (32 ∷ y)))
    ∙ sym (map-append to_ascii_lowercase w (32 ∷ (h ++ 32 ∷ y)))

small_lines : (a : ℕ) (bytes line other : List ℕ) → IsCommand line (Write a bytes) → IsCommand other (Write a bytes)
    → map to_ascii_lowercase line ≡ map to_ascii_lowercase other
small_lines a bytes line other h k =
    let f = h.each in
    let g = k.each in
    let small : (t : List ℕ) (xs : List (List ℕ)) → t ≡ join_with_byte 32 xs
    → map to_ascii_lowercase t ≡ map to_ascii_lowercase (join_with_byte 32 xs)
    = λ t xs e. ap (map to_ascii_lowercase) e in
    small line (codes "write" ∷ decimal a ∷ f.1 ∷ []) (h.joined ∙ ap (join_with_byte 32) f.3)
    ∙ small_join (codes "write") (decimal a) f.1 g.1 (small_digits f.1 bytes f.2.decoded ∙ sym (small_digits g.1 bytes g.2.decoded))
    ∙ sym (small other (codes "write" ∷ decimal a ∷ g.1 ∷ []) (k.joined ∙ ap (join_with_byte 32) g.3))

-- two lines of a command
abbrev Alike : List ℕ → List ℕ → Command → Type 0
Alike line other c = (map to_ascii_lowercase line ≡ map to_ascii_lowercase other) × (has_digits c ≡ false → line ≡ other)

alike_if_write : (a : ℕ) (bytes : List ℕ) (c : Command) (line other : List ℕ) → c ≡ Write a bytes → IsCommand line c → IsCommand other c
    → Alike line other c
alike_if_write a bytes c line other e =
    let P : Command → Type 0 = λ d. IsCommand line d → IsCommand other d → Alike line other d in
    subst P (sym e) (λ h k. (small_lines a bytes line other h k, λ n. absurd (false≢true (sym n))))

pub one_spelling : (c : Command) (line other : List ℕ) → IsCommand line c → IsCommand other c → Alike line other c
one_spelling c line other h k = elim (one_form c h.fields k.fields h.each k.each) [
  | inl e ↦ let same : line ≡ other = h.joined ∙ ap (join_with_byte 32) e ∙ sym k.joined in (ap (map to_ascii_lowercase) same, λ n. same)
  | inr w ↦ alike_if_write w.0 w.1 c line other w.2 h k
]

pub one_command : (line : List ℕ) (c other : Command) → IsCommand line c → IsCommand line other → c ≡ other
one_command line c other h k = same_Some c other (sym (command_is_read line c h) ∙ command_is_read line other k)
