-- Words of a line and what they spell.
use Rattle.std.proofs.Common.{◌≡◌, ℕ, ◌<◌, ◌≤◌, Bool, true, false, nat_lt, nat_le, ◌&&◌, cond, List, length, Some, None, Result, Ok, Err}
use Rattle.std.proofs.Common.{refl, sym, ap, ◌∙◌, arith, inl, inr}
use Rattle.std.specs.Prelude.{codes, decimal, IsOk, MatchResult}
use Rattle.std.specs.List.{AllPass, list_all}
use Rattle.std.specs.Char.{is_ascii_graphic}
use Rattle.std.specs.Result.{result_ok}
use Rattle.std.specs.Str.{bytes_eq, IsUtf8}
use Rattle.std.proofs.lemmas.Str.{IsUtf8-from_ascii}
use Rattle.std.proofs.lemmas.Str.Ascii.{IsAscii-from_all}
use Rattle.std.proofs.lemmas.List.Sums.{AllPass-from_list_all, list_all-from_AllPass}
use Rattle.std.proofs.lemmas.Slice.Eq.{bytes_eq-Decides}
use Rattle.std.proofs.lemmas.Bool.{ltb-true, lt-ltb, leb-true, le-leb, false≢true}
use Rattle.std.proofs.lemmas.Option.{cond_some, same_Some, none-some}
use Rattle.hex.specs.Hex.{decode_of, is_hex_digit}
use Rattle.hex.specs.declared.error.FromHexError.{FromHexError}
use Rattle.hex.proofs.HexLemmas.{decode_of-ok}
use Rattle.jlr_device.specs.declared.device.Mode.{Mode}
use Rattle.jlr_device.specs.declared.device.Mode.TheVariants.{Read, Write}
use Rattle.jlr_wire.proofs.Options.{bind_some, chosen, cond_some_of, and_parts}
use Rattle.jlr_wire.proofs.Numbers.{byte_of_decimal, byte_of_spells}
use Rattle.jlr_wire.specs.Lines.{IsWithout}
use Rattle.jlr_wire.specs.Texts.{IsWord, IsPathText, AreDigits}
use Rattle.jlr_wire.specs.Commands.{mode_letter}
use Rattle.jlr_wire.specs.Fields.{byte_of, word_of, data_of, mode_of}
use Rattle.jlr_wire.specs.Reading.{count_of}

pub word_of_word : (limit : ℕ) (kind : ℕ → Bool) (text : List ℕ) → IsWord limit kind text → word_of limit kind text ≡ Some text
unfolding word_of
word_of_word limit kind text h =
    rw (lt-ltb 0 (length text) h.some, le-leb (length text) limit h.few, list_all-from_AllPass kind text h.each) refl

pub word_of_spells : (limit : ℕ) (kind : ℕ → Bool) (text w : List ℕ) → word_of limit kind text ≡ Some w → IsWord limit kind w × (text ≡ w)
unfolding word_of
word_of_spells limit kind text w e =
    let h = cond_some _ _ _ e in
    let parts = and_parts (nat_lt 0 (length text) && nat_le (length text) limit) (list_all kind text) h.0 in
    let both = and_parts (nat_lt 0 (length text)) (nat_le (length text) limit) parts.0 in
    let is : IsWord limit kind text = record {
      some = ltb-true 0 (length text) both.0;
      few = leb-true (length text) limit both.1;
      each = AllPass-from_list_all kind text parts.1;
    } in
    (rw (← h.1) is, h.1)

-- a text of a kind of bytes that no space is of
pub kind_no_space : (kind : ℕ → Bool) (text : List ℕ) → kind 32 ≡ false → AllPass kind text → IsWithout 32 text
kind_no_space kind text unlike h = λ k d lt e. false≢true (sym unlike ∙ ap kind (sym e) ∙ h k d lt)

pub digits_no_space : (digits bytes : List ℕ) → AreDigits digits bytes → IsWithout 32 digits
digits_no_space digits bytes h = kind_no_space is_hex_digit digits refl (decode_of-ok digits bytes h.decoded).1

ok_is_some : (r : Result (List ℕ) FromHexError) (bytes : List ℕ) → result_ok r ≡ Some bytes → r ≡ Ok bytes
ok_is_some (Ok xs) bytes e = ap Ok (same_Some xs bytes e)
ok_is_some (Err f) bytes e = absurd (none-some bytes e)

pub data_of_digits : (digits bytes : List ℕ) → AreDigits digits bytes → data_of digits ≡ Some bytes
unfolding data_of
data_of_digits digits bytes h =
    let twice = (decode_of-ok digits bytes h.decoded).2 in
    rw (lt-ltb 0 (length digits) (omega (arith, h.some, twice)), le-leb (length digits) 400 (omega (arith, h.few, twice)), h.decoded) refl

pub data_of_spells : (digits bytes : List ℕ) → data_of digits ≡ Some bytes → AreDigits digits bytes
unfolding data_of
data_of_spells digits bytes e =
    let h = cond_some_of (nat_lt 0 (length digits) && nat_le (length digits) 400) (result_ok (decode_of digits)) bytes e in
    let both = and_parts (nat_lt 0 (length digits)) (nat_le (length digits) 400) h.0 in
    let decoded = ok_is_some (decode_of digits) bytes h.1 in
    let twice = (decode_of-ok digits bytes decoded).2 in
    let some = ltb-true 0 (length digits) both.0 in
    let few = leb-true (length digits) 400 both.1 in
    record { some = omega (arith, some, twice); few = omega (arith, few, twice); decoded = decoded }

pub count_of_decimal : (n : ℕ) → 1 ≤ n → n ≤ 200 → count_of (decimal n) ≡ Some n
count_of_decimal n some few = rw (byte_of_decimal n (omega (arith, few)), le-leb 1 n some, le-leb n 200 few) refl

pub count_of_spells : (text : List ℕ) (n : ℕ) → count_of text ≡ Some n → (1 ≤ n) × (n ≤ 200) × (text ≡ decimal n)
count_of_spells text n e =
    let p = bind_some (byte_of text) (λ m. cond (nat_le 1 m && nat_le m 200) (Some m) None) n e in
    let h = cond_some _ _ _ p.2 in
    let both = and_parts (nat_le 1 p.0) (nat_le p.0 200) h.0 in
    (rw (← h.1) (leb-true 1 p.0 both.0), rw (← h.1) (leb-true p.0 200 both.1), (byte_of_spells text p.0 p.1).1 ∙ ap decimal h.1)

pub mode_of_letter : (mode : Mode) → mode_of (mode_letter mode) ≡ Some mode
unfolding mode_of
mode_of_letter Read = refl
mode_of_letter Write = refl

pub mode_of_spells : (text : List ℕ) (mode : Mode) → mode_of text ≡ Some mode → text ≡ mode_letter mode
unfolding mode_of
mode_of_spells text mode e = elim (chosen (bytes_eq text (codes "r")) (Some Read) _ (Some mode) e) [
  | inl h ↦ (bytes_eq-Decides text (codes "r")).0 h.0 ∙ ap mode_letter (same_Some _ _ h.1)
  | inr h ↦ let p = cond_some _ _ _ h.1 in (bytes_eq-Decides text (codes "w")).0 p.0 ∙ ap mode_letter p.1
]

below_128 : (b : ℕ) → is_ascii_graphic b ≡ true → b < 128
below_128 b h = grind (arith, h)

pub path_is_utf8 : (text : List ℕ) → IsPathText text → IsUtf8 text
path_is_utf8 text h = IsUtf8-from_ascii text (IsAscii-from_all text (λ k d lt. below_128 _ (h.each k d lt)))

pub ok_unless : {A E : Type 0} (r : Result A E) (P : A → Type 0) (Q : E → Type 0) → MatchResult r P Q → ((e : E) → Q e → ⊥) → IsOk r
ok_unless (Ok x) P Q h never = refl
ok_unless (Err e) P Q h never = absurd (never e h)
