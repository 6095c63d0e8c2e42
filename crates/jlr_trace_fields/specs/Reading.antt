-- Reading fields from the front of the bytes, with the first fault that is met.
use Rattle.std.specs.Prelude.{◌≡◌, ℕ, ℤ, ◌-◌, Bool, ◌||◌, ◌==◌, List, [], ◌∷◌, length, take, drop, Option, Some, None}
use Rattle.std.specs.Prelude.{Result, Ok, Err, nat_lt, if◌then◌else◌, slice_get}
use Rattle.std.specs.List.{list_all}
use Rattle.std.specs.Int.{Width, w32, w64, byte_len, from_be_bytes, cast_signed}
use Rattle.jlr_trace_fields.specs.declared.fault.Fault.{Fault}
use Rattle.jlr_trace_fields.specs.declared.fault.Fault.TheVariants.{Short, Range}
use Rattle.jlr_trace_fields.specs.declared.fault.ReadError.{ReadError}
use Rattle.jlr_trace_fields.specs.declared.fault.ReadError.TheVariants as errors
use Rattle.jlr_trace_fields.specs.Spelling.{no_slot}

-- a reader gives what stands at the front, and the bytes behind it
abbrev pub Reader : Type 0 → Type 0
Reader A = List ℕ → Result (A × List ℕ) Fault

infixl 10 ◌>>=◌
abbrev pub ◌>>=◌ : {A B : Type 0} → Result A Fault → (A → Result B Fault) → Result B Fault
(Ok x) >>= f = f x
(Err e) >>= f = Err e

-- What a function returned, seen by view, is what reading gives, unless memory ran out
abbrev pub Fails : {Y : Type 0} → ReadError → Result Y Fault → Type 0
Fails errors.Memory read = Unit {0}
Fails (errors.Fault f) read = read ≡ Err f

abbrev pub Gives : {X Y : Type 0} → (X → Y) → Result X ReadError → Result Y Fault → Type 0
Gives view (Ok x) read = read ≡ Ok (view x)
Gives view (Err e) read = Fails e read

-- The same of a function that takes what it reads from the front of the bytes, and leaves the rest
abbrev pub Reads : {X Y : Type 0} → (X → Y) → Result X ReadError → List ℕ → Result (Y × List ℕ) Fault → Type 0
Reads view (Ok x) rest read = read ≡ Ok (view x, rest)
Reads view (Err e) rest read = Fails e read

-- ---- Fields one after the other, and what is made of them

abbrev pub one_field : {A X : Type 0} → Reader A → (A → X) → Reader X
one_field a make bytes = a bytes >>= λ x. Ok (make x.0, x.1)

abbrev pub two_fields : {A B X : Type 0} → Reader A → Reader B → (A → B → X) → Reader X
two_fields a b make bytes = a bytes >>= λ x. one_field b (make x.0) x.1

abbrev pub three_fields : {A B C X : Type 0} → Reader A → Reader B → Reader C → (A → B → C → X) → Reader X
three_fields a b c make bytes = a bytes >>= λ x. two_fields b c (make x.0) x.1

abbrev pub four_fields : {A B C D X : Type 0} → Reader A → Reader B → Reader C → Reader D → (A → B → C → D → X)
    → Reader X
four_fields a b c d make bytes = a bytes >>= λ x. three_fields b c d (make x.0) x.1

abbrev pub five_fields : {A B C D E X : Type 0} → Reader A → Reader B → Reader C → Reader D → Reader E
    → (A → B → C → D → E → X) → Reader X
five_fields a b c d e make bytes = a bytes >>= λ x. four_fields b c d e (make x.0) x.1

-- ---- Numbers

abbrev pub byte_at : List ℕ → Result (ℕ × List ℕ) Fault
byte_at [] = Err Short
byte_at (b ∷ rest) = Ok (b, rest)

abbrev pub number_at : Width → List ℕ → Result (ℕ × List ℕ) Fault
number_at w bytes = if nat_lt (length bytes) (byte_len w) then Err Short else Ok
    (from_be_bytes w (take (byte_len w) bytes), drop (byte_len w) bytes)

-- one from low to high; it is read whole before it is tested
unfoldable pub number_within_at : Width → ℕ → ℕ → Reader ℕ
number_within_at w low high bytes = number_at w bytes >>= λ n. if nat_lt n.0 low
    || nat_lt high n.0 then Err Range else Ok n

unfoldable pub signed_at : List ℕ → Result (ℤ × List ℕ) Fault
signed_at bytes = do
  n ← number_at w64 bytes
  Ok (cast_signed w64 n.0, n.1)

-- a byte from low to high
unfoldable pub byte_within_at : ℕ → ℕ → List ℕ → Result (ℕ × List ℕ) Fault
byte_within_at low high bytes = do
  b ← byte_at bytes
  if nat_lt b.0 low || nat_lt high b.0 then Err Range else Ok b

unfoldable pub flag_at : List ℕ → Result (Bool × List ℕ) Fault
flag_at bytes = do
  b ← byte_within_at 0 1 bytes
  Ok (b.0 == 1, b.1)

unfoldable pub option_at : List ℕ → Result (Option ℕ × List ℕ) Fault
option_at bytes = do
  n ← number_at w32 bytes
  if n.0 == no_slot then Ok (None, n.1) else Ok (Some n.0, n.1)

-- one of the values of a table, named by its place, counted from a first number
abbrev pub value_by_number : {A : Type 0} → Option A → List ℕ → Result (A × List ℕ) Fault
value_by_number None rest = Err Range
value_by_number (Some x) rest = Ok (x, rest)

unfoldable pub picked_at : {A : Type 0} → ℕ → List A → List ℕ → Result (A × List ℕ) Fault
picked_at first table bytes = do
  b ← byte_at bytes
  if nat_lt b.0 first then Err Range else value_by_number (slice_get table (b.0 - first)) b.1

-- ---- Texts

unfoldable pub taken_at : ℕ → List ℕ → Result (List ℕ × List ℕ) Fault
taken_at count bytes = if nat_lt (length bytes) count then Err Short else Ok (take count bytes, drop count bytes)

-- a length from low to high, and that many bytes which pass a test; a byte that does not is met before the end
unfoldable pub text_at : ℕ → ℕ → (ℕ → Bool) → List ℕ → Result (List ℕ × List ℕ) Fault
text_at low high test bytes = do
  count ← byte_within_at low high bytes
  if list_all test (take count.0 count.1) then taken_at count.0 count.1 else Err Range

-- a length from low to high, and that many bytes
unfoldable pub bytes_at : ℕ → ℕ → List ℕ → Result (List ℕ × List ℕ) Fault
bytes_at low high bytes = do
  count ← byte_within_at low high bytes
  taken_at count.0 count.1
