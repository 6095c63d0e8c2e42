-- What is read from a beginning of a trace file is read from all of it.
use Rattle.std.proofs.Common.{◌≡◌, ℕ, Bool, true, false, cond, List, [], ◌∷◌, ◌++◌, Result, Ok, Err, refl, sym, ap, subst}
use Rattle.std.specs.Prelude.{nat_eq}
use Rattle.std.specs.Int.{w64}
use Rattle.jlr_trace_fields.specs.declared.fault.Fault.{Fault}
use Rattle.jlr_trace_fields.specs.declared.fault.Fault.TheVariants.{Short, Range}
use Rattle.jlr_trace_fields.specs.declared.version.Version.{Version}
use Rattle.jlr_trace_fields.specs.declared.version.Version.TheVariants.{One, Two}
use Rattle.jlr_trace_fields.specs.Reading.{Reader, number_at}
use Rattle.jlr_trace_entries.specs.Entries.{entry_read}
use Rattle.jlr_trace_entries.specs.Images.{ImageText, image_read}
use Rattle.jlr_trace.specs.Steady.{StillReads, IsSteady}
use Rattle.jlr_trace.proofs.Fields.{number}
use Rattle.jlr_trace.proofs.Sections.{entry, image}
use Rattle.jlr_trace.specs.declared.file.TraceFault.{TraceFault}
use Rattle.jlr_trace.specs.declared.file.TraceFault.TheVariants.{Truncated, BadMark, BadVersion, BadEntry, NoMemory}
use Rattle.jlr_trace.specs.Files.{◌>>>◌, in_entry, expected, version_read, mark_read}
use Rattle.jlr_trace.specs.Streams.{HeadingText, heading_text, heading_read}

-- a step of more bytes gives what it gave, grown; only that bytes are missing may turn out otherwise
abbrev pub Still : {X : Type 0} → (X → X) → Result X TraceFault → Result X TraceFault → Type 0
Still grow (Ok x) longer = longer ≡ Ok (grow x)
Still grow (Err Truncated) longer = Unit {0}
Still grow (Err BadMark) longer = longer ≡ Err BadMark
Still grow (Err BadVersion) longer = longer ≡ Err BadVersion
Still grow (Err (BadEntry k)) longer = longer ≡ Err (BadEntry k)
Still grow (Err NoMemory) longer = longer ≡ Err NoMemory

-- more bytes behind those that are left
abbrev pub grown : {A : Type 0} → List ℕ → A × List ℕ → A × List ℕ
grown more x = (x.0, x.1 ++ more)

pub record IsStill {A : Type 0} (read : List ℕ → Result (A × List ℕ) TraceFault) : Type 0 where
  pub still : (bytes more : List ℕ) → Still (grown more) (read bytes) (read (bytes ++ more))

-- one step behind another
next : {X Y : Type 0} (grow : X → X) (then_grow : Y → Y) (first longer : Result X TraceFault) (then : X → Result Y TraceFault)
    → ((x : X) → Still then_grow (then x) (then (grow x)))
    → Still grow first longer → Still then_grow (first >>> then) (longer >>> then)
next {X} grow then_grow (Ok x) longer then steps e =
    subst (λ (l : Result X TraceFault). Still then_grow (then x) (l >>> then)) (sym e) (steps x)
next grow then_grow (Err Truncated) longer then steps e = tt
next {X} grow then_grow (Err BadMark) longer then steps e = ap (λ (l : Result X TraceFault). l >>> then) e
next {X} grow then_grow (Err BadVersion) longer then steps e = ap (λ (l : Result X TraceFault). l >>> then) e
next {X} grow then_grow (Err (BadEntry k)) longer then steps e = ap (λ (l : Result X TraceFault). l >>> then) e
next {X} grow then_grow (Err NoMemory) longer then steps e = ap (λ (l : Result X TraceFault). l >>> then) e

-- ---- The mark and the version

module _ (more : List ℕ) where
  abbrev longer_rest : List ℕ → List ℕ
  longer_rest rest = rest ++ more

  right_or_not : (right : Bool) (rest : List ℕ) → Still longer_rest (cond right (Ok rest) (Err BadMark))
      (cond right (Ok (rest ++ more)) (Err BadMark))
  right_or_not true rest = refl
  right_or_not false rest = refl

  still_byte : (byte : ℕ) (bytes : List ℕ) → Still longer_rest (expected byte bytes) (expected byte (bytes ++ more))
  still_byte byte [] = tt
  still_byte byte (b ∷ rest) = right_or_not (nat_eq b byte) rest

  known_or_not : (one two : Bool) (rest : List ℕ)
      → Still {X = Version × List ℕ} (grown more) (cond one (Ok (One, rest)) (cond two (Ok (Two, rest)) (Err BadVersion)))
      (cond one (Ok (One, rest ++ more)) (cond two (Ok (Two, rest ++ more)) (Err BadVersion)))
  known_or_not true two rest = refl
  known_or_not false true rest = refl
  known_or_not false false rest = refl

  still_version : (bytes : List ℕ) → Still (grown more) (version_read bytes) (version_read (bytes ++ more))
  still_version [] = tt
  still_version (b ∷ rest) = known_or_not (nat_eq b 1) (nat_eq b 2) rest

  still_mark : (bytes : List ℕ) → Still (grown more) (mark_read bytes) (mark_read (bytes ++ more))
  unfolding mark_read
  still_mark bytes =
      let one : Still longer_rest (expected 74 bytes) (expected 74 (bytes ++ more)) = still_byte 74 bytes in
      let two : Still longer_rest (expected 74 bytes >>> expected 76) (expected 74 (bytes ++ more) >>> expected 76) =
      next longer_rest longer_rest (expected 74 bytes) (expected 74 (bytes ++ more)) (expected 76) (still_byte 76) one in
      let three : Still longer_rest (expected 74 bytes >>> expected 76 >>> expected 82)
      (expected 74 (bytes ++ more) >>> expected 76 >>> expected 82) =
      next longer_rest longer_rest (expected 74 bytes >>> expected 76) (expected 74 (bytes ++ more) >>> expected 76) (expected 82)
      (still_byte 82) two in
      let four : Still longer_rest (expected 74 bytes >>> expected 76 >>> expected 82 >>> expected 84)
      (expected 74 (bytes ++ more) >>> expected 76 >>> expected 82 >>> expected 84) =
      next longer_rest longer_rest (expected 74 bytes >>> expected 76 >>> expected 82)
      (expected 74 (bytes ++ more) >>> expected 76 >>> expected 82) (expected 84) (still_byte 84) three in
      next longer_rest (grown more) (expected 74 bytes >>> expected 76 >>> expected 82 >>> expected 84)
      (expected 74 (bytes ++ more) >>> expected 76 >>> expected 82 >>> expected 84) version_read still_version four

  -- ---- Fields in an entry, and the head of a file

  still_in : {A : Type 0} (number : ℕ) (first longer : Result (A × List ℕ) Fault) → StillReads more first longer
      → Still (grown more) (in_entry number first) (in_entry number longer)
  still_in number (Ok x) longer e = ap (in_entry number) e
  still_in number (Err Short) longer e = tt
  still_in number (Err Range) longer e = ap (in_entry number) e

  still_field : {A : Type 0} (number : ℕ) (read : Reader A) → IsSteady read → (bytes : List ℕ)
      → Still (grown more) (in_entry number (read bytes)) (in_entry number (read (bytes ++ more)))
  still_field number read steady bytes = still_in number (read bytes) (read (bytes ++ more)) (steady.still bytes more)

  abbrev with_count : Version → ImageText → ℕ × List ℕ → Result (HeadingText × List ℕ) TraceFault
  with_count version image count = Ok (heading_text version image count.0, count.1)

  abbrev behind_image : Version → ImageText × List ℕ → Result (HeadingText × List ℕ) TraceFault
  behind_image version image = in_entry 0 (number_at w64 image.1) >>> with_count version image.0

  abbrev behind_mark : Version × List ℕ → Result (HeadingText × List ℕ) TraceFault
  behind_mark version = in_entry 0 (image_read version.0 version.1) >>> behind_image version.0

  still_behind_image : (version : Version) (i : ImageText × List ℕ)
      → Still (grown more) (behind_image version i) (behind_image version (grown more i))
  still_behind_image version i =
      next (grown more) (grown more) (in_entry 0 (number_at w64 i.1)) (in_entry 0 (number_at w64 (i.1 ++ more))) (with_count version i.0)
      (λ c. refl) (still_field 0 (number_at w64) (number w64) i.1)

  still_behind_mark : (v : Version × List ℕ) → Still (grown more) (behind_mark v) (behind_mark (grown more v))
  still_behind_mark v =
      next (grown more) (grown more) (in_entry 0 (image_read v.0 v.1)) (in_entry 0 (image_read v.0 (v.1 ++ more))) (behind_image v.0)
      (still_behind_image v.0) (still_field 0 (image_read v.0) (image v.0) v.1)

  still_heading : (bytes : List ℕ) → Still (grown more) (heading_read bytes) (heading_read (bytes ++ more))
  unfolding heading_read
  still_heading bytes =
      next (grown more) (grown more) (mark_read bytes) (mark_read (bytes ++ more)) behind_mark still_behind_mark (still_mark bytes)

pub heading_is_still : IsStill heading_read
heading_is_still = record { still = λ bytes more. still_heading more bytes }

pub entry_is_still : (version : Version) (number : ℕ) → IsStill (λ bytes. in_entry number (entry_read version bytes))
entry_is_still version number = record { still = λ bytes more. still_field more number (entry_read version) (entry version) bytes }
