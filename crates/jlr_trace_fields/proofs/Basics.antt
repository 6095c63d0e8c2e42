-- Bytes, flags, slots, values of a table and texts: what is read is what was written, and what was written is read again.
use Rattle.std.proofs.Common.{◌≡◌, ℕ, ℤ, zero, suc, ◌+◌, ◌-◌, ◌^◌, ◌<◌, ◌≤◌, Bool, true, false, cond, ltb, ◌||◌, List, [], ◌∷◌, ◌++◌}
use Rattle.std.proofs.Common.{length, take, drop, Option, Some, None, Result, Ok, Err, refl, sym, ap, subst, ◌∙◌, arith}
use Rattle.std.specs.Prelude.{slice_get, nat_eq, ◌&&◌}
use Rattle.std.specs.List.{list_all}
use Rattle.std.specs.Int.{Width, w32, w64, to_be_bytes, cast_signed, cast_unsigned}
use Rattle.std.proofs.lemmas.Bool.{ltb-false, le-ltb, eqb-true}
use Rattle.std.proofs.lemmas.Int.{ints, to_z-of_z, of_z-to_z}
use Rattle.std.proofs.lemmas.List.{take_at, drop_at, take-append-drop, length-append, length-take}
use Rattle.jlr_trace_fields.specs.declared.fault.Fault.{Fault}
use Rattle.jlr_trace_fields.specs.declared.fault.Fault.TheVariants.{Short, Range}
use Rattle.jlr_trace_fields.specs.Reading.{byte_at, byte_within_at, flag_at, option_at, number_at, number_within_at, picked_at}
use Rattle.jlr_trace_fields.specs.Reading.{value_by_number}
use Rattle.jlr_trace_fields.specs.Reading.{text_at, bytes_at, taken_at, signed_at}
use Rattle.jlr_trace_fields.specs.Spelling.{spelled_8, spelled_32, spelled_flag, spelled_option, spelled_signed, spelled_text, no_slot}
use Rattle.jlr_trace_fields.specs.Spelling.{IsBytes}
use Rattle.jlr_trace_fields.specs.Spelling.{IsWithin, IsSigned, SlotFits, IsText, IsTextOf}
use Rattle.jlr_trace_fields.specs.Laws.{Takes, TakesSpelled, ReadsAgain, IsField}
use Rattle.jlr_trace_fields.proofs.Steps.{IsBytes-drop, IsBytes-take, bind_ok, ok_is, guard_ok}
use Rattle.jlr_trace_fields.proofs.Numbers.{four_bytes, eight_bytes}

pub IsBytes-rest : (b : ℕ) (bytes : List ℕ) → IsBytes (b ∷ bytes) → IsBytes bytes
IsBytes-rest b bytes h i = h (suc i)

byte_takes : TakesSpelled byte_at spelled_8 (λ n. n < 256)
byte_takes [] n rest fits e = absurd cc
byte_takes (b ∷ bytes) n rest fits e =
    subst (λ (y : ℕ × List ℕ). Takes (b ∷ bytes) (spelled_8 y.0) y.1 × (y.0 < 256)) (ok_is (b, bytes) (n, rest) e)
    (record { parts = refl; rest_fits = IsBytes-rest b bytes fits }, fits 0)

pub byte : IsField byte_at spelled_8 (λ n. n < 256)
byte = record { takes = byte_takes; again = λ n rest fits. refl }

-- a test that may fail
pub kept : {A : Type 0} (b : Bool) (d : Fault) (r : Result A Fault) (y : A) → cond b (Err d) r ≡ Ok y → (b ≡ false) × (r ≡ Ok y)
kept true d r y e = absurd cc
kept false d r y e = (refl, e)

neither : (a b : Bool) → (a || b) ≡ false → (a ≡ false) × (b ≡ false)
neither true b e = absurd cc
neither false b e = (refl, e)

within_takes : (low high : ℕ) → TakesSpelled (byte_within_at low high) spelled_8 (IsWithin low high)
unfolding byte_within_at
within_takes low high bytes n rest fits e =
    let a = bind_ok (byte_at bytes) (λ b. cond (ltb b.0 low || ltb high b.0) (Err Range) (Ok b)) (n, rest) e in
    let g = guard_ok (ltb a.0.0 low || ltb high a.0.0) Range a.0 (n, rest) a.2 in
    let t = byte_takes bytes a.0.0 a.0.1 fits a.1 in
    let parts = neither (ltb a.0.0 low) (ltb high a.0.0) g.0 in
    subst (λ (y : ℕ × List ℕ). Takes bytes (spelled_8 y.0) y.1 × IsWithin low high y.0) g.1
    (t.0, (ltb-false a.0.0 low parts.0, ltb-false high a.0.0 parts.1))

within_again : (low high : ℕ) → ReadsAgain (byte_within_at low high) spelled_8 (IsWithin low high)
unfolding byte_within_at
within_again low high n rest fits =
    let above : ltb n low ≡ false = le-ltb _ _ fits.0 in
    let below : ltb high n ≡ false = le-ltb _ _ fits.1 in
    rw (above, below) refl

pub within : (low high : ℕ) → IsField (byte_within_at low high) spelled_8 (IsWithin low high)
within low high = record { takes = within_takes low high; again = within_again low high }

-- numbers from low to high
number_takes : (w : Width) (limit low high : ℕ) → IsField (number_at w) (to_be_bytes w) (λ n. n < limit)
    → TakesSpelled (number_within_at w low high) (to_be_bytes w) (IsWithin low high)
unfolding number_within_at
number_takes w limit low high field bytes n rest fits e =
    let a = bind_ok (number_at w bytes) (λ b. cond (ltb b.0 low || ltb high b.0) (Err Range) (Ok b)) (n, rest) e in
    let g = guard_ok (ltb a.0.0 low || ltb high a.0.0) Range a.0 (n, rest) a.2 in
    let t = field.takes bytes a.0.0 a.0.1 fits a.1 in
    let parts = neither (ltb a.0.0 low) (ltb high a.0.0) g.0 in
    subst (λ (y : ℕ × List ℕ). Takes bytes (to_be_bytes w y.0) y.1 × IsWithin low high y.0) g.1
    (t.0, (ltb-false a.0.0 low parts.0, ltb-false high a.0.0 parts.1))

number_again : (w : Width) (limit low high : ℕ) → high < limit → IsField (number_at w) (to_be_bytes w) (λ n. n < limit)
    → ReadsAgain (number_within_at w low high) (to_be_bytes w) (IsWithin low high)
unfolding number_within_at
number_again w limit low high small field n rest fits =
    let above : ltb n low ≡ false = le-ltb _ _ fits.0 in
    let below : ltb high n ≡ false = le-ltb _ _ fits.1 in
    let lt : n < limit = omega (arith, fits.1) in
    rw (field.again n rest lt, above, below) refl

pub number_within : (w : Width) (limit low high : ℕ) → high < limit → IsField (number_at w) (to_be_bytes w) (λ n. n < limit)
    → IsField (number_within_at w low high) (to_be_bytes w) (IsWithin low high)
number_within w limit low high small field =
    record { takes = number_takes w limit low high field; again = number_again w limit low high small field }

flag_text : (n : ℕ) → IsWithin 0 1 n → spelled_8 n ≡ spelled_flag (nat_eq n 1)
flag_text zero fits = refl
flag_text (suc zero) fits = refl
flag_text (suc (suc n)) fits = absurd (omega arith)

flag_takes : TakesSpelled flag_at spelled_flag (λ _. Unit {0})
unfolding flag_at
flag_takes bytes b rest fits e =
    let a = bind_ok (byte_within_at 0 1 bytes) (λ n. Ok (nat_eq n.0 1, n.1)) (b, rest) e in
    let t = within_takes 0 1 bytes a.0.0 a.0.1 fits a.1 in
    let made : Bool × List ℕ = (nat_eq a.0.0 1, a.0.1) in
    let text : Takes bytes (spelled_flag (nat_eq a.0.0 1)) a.0.1 = subst (λ (x : List ℕ). Takes bytes x a.0.1) (flag_text a.0.0 t.1) t.0 in
    subst (λ (y : Bool × List ℕ). Takes bytes (spelled_flag y.0) y.1 × Unit {0}) (ok_is made (b, rest) a.2) (text, tt)

flag_again : ReadsAgain flag_at spelled_flag (λ _. Unit {0})
unfolding flag_at byte_within_at
flag_again false rest fits = refl
flag_again true rest fits = refl

pub flag : IsField flag_at spelled_flag (λ _. Unit {0})
flag = record { takes = flag_takes; again = flag_again }

smaller : (n : ℕ) → n < 2 ^ 32 → nat_eq n no_slot ≡ false → n < no_slot
smaller n lt is = grind (arith, is, lt)

not_none : (s : ℕ) → s < no_slot → nat_eq s no_slot ≡ false
not_none s lt = grind (arith, lt)

signed_fits : (n : ℕ) → n < 2 ^ 64 → IsSigned (cast_signed w64 n)
signed_fits n lt = grind (arith, ints)

unsigned_fits : (z : ℤ) → IsSigned z → cast_unsigned w64 z < 2 ^ 64
unsigned_fits z fits = omega (arith, ints)

-- a slot or none, by its number
abbrev slot_or_none : ℕ → List ℕ → Result (Option ℕ × List ℕ) Fault
slot_or_none n left = cond (nat_eq n no_slot) (Ok (None, left)) (Ok (Some n, left))

some_slot : (n : ℕ) (bytes left : List ℕ) (o : Option ℕ) (rest : List ℕ) → Takes bytes (spelled_32 n) left → n < 2 ^ 32
    → slot_or_none n left ≡ Ok (o, rest) → Takes bytes (spelled_option o) rest × SlotFits o
some_slot n bytes left o rest t lt e =
    let Of : Bool → Type 0 = λ b. nat_eq n no_slot ≡ b
    → cond {A = Result (Option ℕ × List ℕ) Fault} b (Ok (None, left)) (Ok (Some n, left)) ≡ Ok (o, rest)
    → Takes bytes (spelled_option o) rest × SlotFits o in
    let none : Option ℕ × List ℕ = (None, left) in
    let some : Option ℕ × List ℕ = (Some n, left) in
    (elim (nat_eq n no_slot) as Of [
      | true ↦ λ is h. subst (λ (y : Option ℕ × List ℕ). Takes bytes (spelled_option y.0) y.1 × SlotFits y.0) (ok_is none (o, rest) h)
          (subst (λ (k : ℕ). Takes bytes (spelled_32 k) left) (eqb-true n no_slot is) t, tt)
      | false ↦ λ is h. subst (λ (y : Option ℕ × List ℕ). Takes bytes (spelled_option y.0) y.1 × SlotFits y.0) (ok_is some (o, rest) h)
          (t, smaller n lt is)
    ]) refl e

option_takes : TakesSpelled option_at spelled_option SlotFits
unfolding option_at
option_takes bytes o rest fits e =
    let a = bind_ok (number_at w32 bytes) (λ n. slot_or_none n.0 n.1) (o, rest) e in
    let t = four_bytes.takes bytes a.0.0 a.0.1 fits a.1 in
    some_slot a.0.0 bytes a.0.1 o rest t.0 t.1 a.2

option_again : ReadsAgain option_at spelled_option SlotFits
unfolding option_at
option_again None rest fits = rw (four_bytes.again no_slot rest (omega arith)) refl
option_again (Some s) rest fits =
    let lt : s < 2 ^ 32 = omega (arith, fits) in
    rw (four_bytes.again s rest lt, not_none s fits) refl

pub option : IsField option_at spelled_option SlotFits
option = record { takes = option_takes; again = option_again }

signed_takes : TakesSpelled signed_at spelled_signed IsSigned
unfolding signed_at
signed_takes bytes z rest fits e =
    let a = bind_ok (number_at w64 bytes) (λ n. Ok (cast_signed w64 n.0, n.1)) (z, rest) e in
    let t = eight_bytes.takes bytes a.0.0 a.0.1 fits a.1 in
    let made : ℤ × List ℕ = (cast_signed w64 a.0.0, a.0.1) in
    let text : Takes bytes (spelled_signed (cast_signed w64 a.0.0)) a.0.1 =
    subst (λ (k : ℕ). Takes bytes (to_be_bytes w64 k) a.0.1) (sym (of_z-to_z w64 a.0.0 t.1)) t.0 in
    subst (λ (y : ℤ × List ℕ). Takes bytes (spelled_signed y.0) y.1 × IsSigned y.0) (ok_is made (z, rest) a.2) (text, signed_fits a.0.0 t.1)

signed_again : ReadsAgain signed_at spelled_signed IsSigned
unfolding signed_at
signed_again z rest fits =
    rw (eight_bytes.again (cast_unsigned w64 z) rest (unsigned_fits z fits), to_z-of_z w64 z fits) refl

pub signed : IsField signed_at spelled_signed IsSigned
signed = record { takes = signed_takes; again = signed_again }

-- ---- Values of a table

-- each value is named by its place, counted from a first number
abbrev pub are_named : {A : Type 0} → ℕ → List A → (A → ℕ) → Bool
are_named n [] name = true
are_named n (x ∷ xs) name = nat_eq (name x) n && are_named (suc n) xs name

both : (a b : Bool) → (a && b) ≡ true → (a ≡ true) × (b ≡ true)
both true b e = (refl, e)
both false b e = absurd cc

named_at : {A : Type 0} (n : ℕ) (table : List A) (name : A → ℕ) (k : ℕ) (x : A) → are_named n table name ≡ true → slice_get table k ≡ Some x
    → name x ≡ n + k
named_at n [] name k x named e = absurd cc
named_at n (y ∷ table) name zero x named e =
    let parts = both (nat_eq (name y) n) (are_named (suc n) table name) named in
    let same : y ≡ x = cc in
    ap name (sym same) ∙ eqb-true (name y) n parts.0 ∙ omega arith
named_at n (y ∷ table) name (suc k) x named e =
    let parts = both (nat_eq (name y) n) (are_named (suc n) table name) named in
    let further : name x ≡ suc n + k = named_at (suc n) table name k x parts.1 e in
    omega arith

value_is : {A : Type 0} (o : Option A) (bytes : List ℕ) (x : A) (rest : List ℕ) → value_by_number o bytes ≡ Ok (x, rest) → (o ≡ Some x)
    × (bytes ≡ rest)
value_is None bytes x rest e = absurd cc
value_is {A} (Some y) bytes x rest e =
    let p = ok_is (y, bytes) (x, rest) e in
    (ap (λ (q : A × List ℕ). Some q.0) p, ap (λ (q : A × List ℕ). q.1) p)

pub picked_takes : {A : Type 0} (first : ℕ) (table : List A) (name : A → ℕ) → are_named first table name ≡ true
    → (bytes : List ℕ) (x : A) (rest : List ℕ) → IsBytes bytes → picked_at first table bytes ≡ Ok (x, rest)
    → Takes bytes (spelled_8 (name x)) rest
unfolding picked_at
picked_takes first table name named [] x rest fits e = absurd cc
picked_takes first table name named (b ∷ bytes) x rest fits e =
    let g = kept (ltb b first) Range (value_by_number (slice_get table (b - first)) bytes) (x, rest) e in
    let v = value_is (slice_get table (b - first)) bytes x rest g.1 in
    let low : first ≤ b = ltb-false b first g.0 in
    let number : name x ≡ first + (b - first) = named_at first table name (b - first) x named v.0 in
    let same : name x ≡ b = omega arith in
    record {
      parts =
          ap (λ (t : List ℕ). b ∷ t) v.1 ∙ ap (λ (n : ℕ). n ∷ rest) (sym same);
      rest_fits = subst IsBytes v.1 (IsBytes-rest b bytes fits);
    }

-- a value of a table, where each is read again
pub picked : {A : Type 0} (first : ℕ) (table : List A) (name : A → ℕ) → are_named first table name ≡ true
    → ((x : A) (rest : List ℕ) → picked_at first table (name x ∷ rest) ≡ Ok (x, rest))
    → IsField (picked_at first table) (λ x. spelled_8 (name x)) (λ _. Unit {0})
picked first table name named again = record {
  takes = λ bytes x rest fits e. (picked_takes first table name named bytes x rest fits e, tt);
  again = λ x rest fits. again x rest;
}

-- ---- Texts

taken_takes : (count : ℕ) (bytes text rest : List ℕ) → IsBytes bytes → taken_at count bytes ≡ Ok (text, rest) → Takes bytes text rest
    × (length text ≡ count) × IsBytes text
unfolding taken_at
taken_takes count bytes text rest fits e =
    let g = guard_ok (ltb (length bytes) count) Short (take count bytes, drop count bytes) (text, rest) e in
    let long : count ≤ length bytes = ltb-false _ _ g.0 in
    subst (λ (y : List ℕ × List ℕ). Takes bytes y.0 y.1 × (length y.0 ≡ count) × IsBytes y.0) g.1 (
      record { parts = sym (take-append-drop count bytes); rest_fits = IsBytes-drop count bytes fits },
      omega (arith, length-take count bytes),
      IsBytes-take count bytes fits,
    )

taken_again : (text rest : List ℕ) → taken_at (length text) (text ++ rest) ≡ Ok (text, rest)
unfolding taken_at
taken_again text rest =
    let long : ltb (length (text ++ rest)) (length text) ≡ false = le-ltb _ _ (omega (arith, length-append text rest)) in
    rw (long, take_at text rest (length text) refl, drop_at text rest (length text) refl) refl

behind_length : (count : ℕ) (bytes middle text rest : List ℕ) → Takes bytes (spelled_8 count) middle → Takes middle text rest
    → length text ≡ count → Takes bytes (spelled_text text) rest
behind_length count bytes middle text rest t u len =
    record {
      parts =
          t.parts ∙ ap (λ (m : List ℕ). count ∷ m) u.parts ∙ ap (λ (n : ℕ). n ∷ (text ++ rest)) (sym len);
      rest_fits = u.rest_fits;
    }

bytes_takes : (low high : ℕ) → TakesSpelled (bytes_at low high) spelled_text (IsText low high)
unfolding bytes_at
bytes_takes low high bytes text rest fits e =
    let a = bind_ok (byte_within_at low high bytes) (λ n. taken_at n.0 n.1) (text, rest) e in
    let t = within_takes low high bytes a.0.0 a.0.1 fits a.1 in
    let u = taken_takes a.0.0 a.0.1 text rest t.0.rest_fits a.2 in
    (behind_length a.0.0 bytes a.0.1 text rest t.0 u.0 u.1, (omega (arith, t.1.0, u.1), omega (arith, t.1.1, u.1), u.2))

bytes_again : (low high : ℕ) → ReadsAgain (bytes_at low high) spelled_text (IsText low high)
unfolding bytes_at
bytes_again low high text rest fits = rw (within_again low high (length text) (text ++ rest) (fits.0, fits.1)) (taken_again text rest)

pub bytes : (low high : ℕ) → IsField (bytes_at low high) spelled_text (IsText low high)
bytes low high = record { takes = bytes_takes low high; again = bytes_again low high }

tested : {A : Type 0} (b : Bool) (d : Fault) (r : Result A Fault) (y : A) → cond b r (Err d) ≡ Ok y → (b ≡ true) × (r ≡ Ok y)
tested true d r y e = (refl, e)
tested false d r y e = absurd cc

took_front : (count : ℕ) (bytes text rest : List ℕ) → taken_at count bytes ≡ Ok (text, rest) → take count bytes ≡ text
unfolding taken_at
took_front count bytes text rest e =
    let g = guard_ok (ltb (length bytes) count) Short (take count bytes, drop count bytes) (text, rest) e in
    ap (λ (y : List ℕ × List ℕ). y.0) g.1

text_takes : (low high : ℕ) (test : ℕ → Bool) → TakesSpelled (text_at low high test) spelled_text (IsTextOf low high test)
unfolding text_at
text_takes low high test bytes text rest fits e =
    let a = bind_ok (byte_within_at low high bytes) (λ n. cond (list_all test (take n.0 n.1)) (taken_at n.0 n.1) (Err Range)) (text, rest)
    e in
    let g = tested (list_all test (take a.0.0 a.0.1)) Range (taken_at a.0.0 a.0.1) (text, rest) a.2 in
    let t = within_takes low high bytes a.0.0 a.0.1 fits a.1 in
    let u = taken_takes a.0.0 a.0.1 text rest t.0.rest_fits g.1 in
    let good : list_all test text ≡ true = ap (list_all test) (sym (took_front a.0.0 a.0.1 text rest g.1)) ∙ g.0 in
    (behind_length a.0.0 bytes a.0.1 text rest t.0 u.0 u.1, ((omega (arith, t.1.0, u.1), omega (arith, t.1.1, u.1), u.2), good))

text_again : (low high : ℕ) (test : ℕ → Bool) → ReadsAgain (text_at low high test) spelled_text (IsTextOf low high test)
unfolding text_at
text_again low high test text rest fits = rw (
  within_again low high (length text) (text ++ rest) (fits.0.0, fits.0.1),
  take_at text rest (length text) refl,
  fits.1,
) (taken_again text rest)

pub text : (low high : ℕ) (test : ℕ → Bool) → IsField (text_at low high test) spelled_text (IsTextOf low high test)
text low high test = record { takes = text_takes low high test; again = text_again low high test }
