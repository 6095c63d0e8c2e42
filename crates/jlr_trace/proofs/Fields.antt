-- Bytes, numbers, flags, slots, values of a table and texts.
use Rattle.std.proofs.Common.{◌≡◌, ℕ, zero, suc, ◌-◌, ◌≤◌, Bool, true, false, cond, ltb, ◌||◌, ◌&&◌, List, [], ◌∷◌, ◌++◌, length, take}
use Rattle.std.proofs.Common.{drop, Option, Some, None, Ok, Err, refl, subst, arith}
use Rattle.std.specs.Prelude.{slice_get, nat_eq}
use Rattle.std.specs.List.{list_all, AllByRecursion}
use Rattle.std.specs.Int.{Width, w32, w64, byte_len, from_be_bytes, cast_signed}
use Rattle.std.proofs.lemmas.Bool.{ltb-false, le-ltb}
use Rattle.std.proofs.lemmas.List.{take-append-le, drop-append-le, length-append}
use Rattle.jlr_trace_fields.specs.declared.fault.Fault.TheVariants.{Short, Range}
use Rattle.jlr_trace_fields.specs.Spelling.{no_slot}
use Rattle.jlr_trace_fields.specs.Reading.{Reader, ◌>>=◌, byte_at, byte_within_at, flag_at, option_at, number_at, number_within_at}
use Rattle.jlr_trace_fields.specs.Reading.{picked_at}
use Rattle.jlr_trace_fields.specs.Reading.{value_by_number, text_at, bytes_at, taken_at, signed_at}
use Rattle.jlr_trace.specs.Steady.{StillReads, IsSteady}
use Rattle.jlr_trace.proofs.Steps.{made, never, then_read, either, one}

still_byte : (bytes more : List ℕ) → StillReads more (byte_at bytes) (byte_at (bytes ++ more))
still_byte [] more = tt
still_byte (b ∷ bytes) more = refl

pub byte : IsSteady byte_at
byte = record { still = still_byte }

-- so many bytes, and what is made of them; too few are no answer yet
abbrev front : {A : Type 0} → ℕ → (List ℕ → A) → Bool → Reader A
front count make few bytes = cond few (Err Short) (Ok (make (take count bytes), drop count bytes))

not_fewer : (count : ℕ) (bytes more : List ℕ) → count ≤ length bytes → ltb (length (bytes ++ more)) count ≡ false
not_fewer count bytes more long = le-ltb _ _ (omega (arith, length-append bytes more))

still_front : {A : Type 0} (count : ℕ) (make : List ℕ → A) (bytes more : List ℕ) (b : Bool) → ltb (length bytes) count ≡ b
    → StillReads more (front count make b bytes) (front count make (ltb (length (bytes ++ more)) count) (bytes ++ more))
still_front count make bytes more true is = tt
still_front {A} count make bytes more false is =
    let long : count ≤ length bytes = ltb-false _ _ is in
    rw (not_fewer count bytes more long, take-append-le count bytes more long, drop-append-le count bytes more long) refl

pub number : (w : Width) → IsSteady (number_at w)
number w = record { still = λ bytes more. still_front (byte_len w) (from_be_bytes w) bytes more (ltb (length bytes) (byte_len w)) refl }

-- a value that may be out of range
checked : {A : Type 0} (b : Bool) (x : A) → IsSteady (λ bytes. cond b (Err Range) (Ok (x, bytes)))
checked b x = either b never (made x)

pub number_within : (w : Width) (low high : ℕ) → IsSteady (number_within_at w low high)
unfolding number_within_at
number_within w low high =
    then_read (number w) (λ n bytes. cond (ltb n low || ltb high n) (Err Range) (Ok (n, bytes))) (λ n. checked (ltb n low || ltb high n) n)

pub signed : IsSteady signed_at
unfolding signed_at
signed = one (number w64) (cast_signed w64)

pub byte_within : (low high : ℕ) → IsSteady (byte_within_at low high)
unfolding byte_within_at
byte_within low high =
    then_read byte (λ n bytes. cond (ltb n low || ltb high n) (Err Range) (Ok (n, bytes))) (λ n. checked (ltb n low || ltb high n) n)

pub flag : IsSteady flag_at
unfolding flag_at
flag = one (byte_within 0 1) (λ b. nat_eq b 1)

pub option : IsSteady option_at
unfolding option_at
option = then_read (number w32) (λ n bytes. cond (nat_eq n no_slot) (Ok (None, bytes)) (Ok (Some n, bytes)))
    (λ n. either (nat_eq n no_slot) (made None) (made (Some n)))

-- ---- Values of a table

value : {A : Type 0} (o : Option A) → IsSteady (value_by_number o)
value None = never
value (Some x) = made x

pub picked : {A : Type 0} (first : ℕ) (table : List A) → IsSteady (picked_at first table)
unfolding picked_at
picked first table = then_read byte (λ b bytes. cond (ltb b first) (Err Range) (value_by_number (slice_get table (b - first)) bytes))
    (λ b. either (ltb b first) never (value (slice_get table (b - first))))

-- each value of a table is of use, so the one that is picked is
member : {A : Type 0} (P : A → Type 0) (table : List A) → AllByRecursion P table → (k : ℕ) (x : A) → slice_get table k ≡ Some x → P x
member P [] each k x at = absurd cc
member P (y ∷ table) each zero x at = let same : y ≡ x = cc in subst P same each.0
member P (y ∷ table) each (suc k) x at = member P table each.1 k x at

picked_or_not : {A B : Type 0} (low : Bool) (o : Option A) (then : A → Reader B) → ((x : A) → o ≡ Some x → IsSteady (then x))
    → IsSteady (λ bytes. cond low (Err Range) (value_by_number o bytes) >>= λ v. then v.0 v.1)
picked_or_not true o then steady = record { still = λ bytes more. refl }
picked_or_not false None then steady = record { still = λ bytes more. refl }
picked_or_not false (Some x) then steady = record { still = (steady x refl).still }

still_picked : {A B : Type 0} (first : ℕ) (table : List A) (then : A → Reader B) → AllByRecursion (λ x. IsSteady (then x)) table
    → (bytes more : List ℕ)
    → StillReads more (picked_at first table bytes >>= λ v. then v.0 v.1) (picked_at first table (bytes ++ more) >>= λ v. then v.0 v.1)
unfolding picked_at
still_picked first table then each [] more = tt
still_picked first table then each (b ∷ bytes) more =
    (picked_or_not (ltb b first) (slice_get table (b - first)) then (member (λ x. IsSteady (then x)) table each (b - first))).still bytes
    more

-- a value of a table, and what is read behind it
pub picked_then : {A B : Type 0} (first : ℕ) (table : List A) (then : A → Reader B) → AllByRecursion (λ x. IsSteady (then x)) table
    → IsSteady (λ bytes. picked_at first table bytes >>= λ v. then v.0 v.1)
unfolding picked_at
picked_then first table then each = record { still = still_picked first table then each }

-- ---- Texts

pub taken : (count : ℕ) → IsSteady (taken_at count)
unfolding taken_at
taken count = record { still = λ bytes more. still_front count (λ text. text) bytes more (ltb (length bytes) count) refl }

pub data_text : (low high : ℕ) → IsSteady (bytes_at low high)
unfolding bytes_at
data_text low high = then_read (byte_within low high) taken_at taken

-- so many bytes which pass a test
abbrev tested : (ℕ → Bool) → ℕ → Reader (List ℕ)
tested test count bytes = cond (list_all test (take count bytes)) (taken_at count bytes) (Err Range)

-- those that there are pass it; where they are too few, more are to come
passed : (test : ℕ → Bool) (count : ℕ) (bytes more : List ℕ) (b : Bool) → ltb (length bytes) count ≡ b
    → list_all test (take count bytes) ≡ true
    → StillReads more (front count (λ text. text) b bytes) (tested test count (bytes ++ more))
unfolding taken_at
passed test count bytes more true short good = tt
passed test count bytes more false enough good =
    let long : count ≤ length bytes = ltb-false _ _ enough in
    rw (take-append-le count bytes more long, good, not_fewer count bytes more long, drop-append-le count bytes more long) refl

kept_false : (a b c : Bool) → (a && b) ≡ false → (b ≡ false → c ≡ false) → (a && c) ≡ false
kept_false true b c h f = f h
kept_false false b c h f = refl

-- a byte that fails it is still there
failed : (test : ℕ → Bool) (count : ℕ) (bytes more : List ℕ) → list_all test (take count bytes) ≡ false
    → list_all test (take count (bytes ++ more)) ≡ false
failed test zero bytes more h = h
failed test (suc count) [] more h = absurd cc
failed test (suc count) (b ∷ bytes) more h =
    kept_false (test b) (list_all test (take count bytes)) (list_all test (take count (bytes ++ more))) h (failed test count bytes more)

still_tested : (test : ℕ → Bool) (count : ℕ) (bytes more : List ℕ) (b : Bool) → list_all test (take count bytes) ≡ b
    → StillReads more (cond b (taken_at count bytes) (Err Range)) (tested test count (bytes ++ more))
unfolding taken_at
still_tested test count bytes more true good = passed test count bytes more (ltb (length bytes) count) refl good
still_tested test count bytes more false bad = rw (failed test count bytes more bad) refl

pub text : (low high : ℕ) (test : ℕ → Bool) → IsSteady (text_at low high test)
unfolding text_at
text low high test = then_read (byte_within low high) (tested test)
    (λ count. record { still = λ bytes more. still_tested test count bytes more (list_all test (take count bytes)) refl })
