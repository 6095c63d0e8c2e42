-- The fault that reading answers is the one of the bytes.
use Rattle.std.proofs.Common.{◌≡◌, ◌≢◌, ◌⊎◌, inl, inr, ℕ, zero, suc, ◌+◌, ◌<◌, Bool, true, false, true≢false, cond, List, [], ◌∷◌, ◌++◌}
use Rattle.std.proofs.Common.{length, Result, Ok, Err, refl, sym, ap, subst, ◌∙◌, append_assoc, arith}
use Rattle.std.specs.Prelude.{IfErr, nat_eq}
use Rattle.std.specs.List.{flat_map, AllByRecursion}
use Rattle.std.specs.Int.{w64}
use Rattle.std.proofs.lemmas.Bool.{eq-eqb}
use Rattle.std.proofs.lemmas.List.{append-nil}
use Rattle.std.proofs.lemmas.List.Concat.{flat_map-cons}
use Rattle.jlr_machine.specs.declared.entry.Entry.{Entry}
use Rattle.jlr_trace_fields.specs.declared.fault.Fault.{Fault}
use Rattle.jlr_trace_fields.specs.declared.fault.Fault.TheVariants.{Short, Range}
use Rattle.jlr_trace_fields.specs.declared.version.Version.{Version}
use Rattle.jlr_trace_fields.specs.declared.version.Version.TheVariants.{One, Two}
use Rattle.jlr_trace_fields.specs.Reading.{number_at}
use Rattle.jlr_trace_fields.specs.Spelling.{spelled_64, IsBytes}
use Rattle.jlr_trace_fields.proofs.Numbers.{eight_bytes}
use Rattle.jlr_trace.specs.declared.file.TraceFault.{TraceFault}
use Rattle.jlr_trace.specs.declared.file.TraceFault.TheVariants.{Truncated, BadMark, BadVersion, BadEntry, NoMemory}
use Rattle.jlr_trace_entries.specs.Entries.{spelled_entry, EntryFits, entry_read}
use Rattle.jlr_trace_entries.specs.Images.{ImageText, spelled_image, ImageFits, image_read}
use Rattle.jlr_trace.specs.Files.{FileText, FileGives, mark, version_number, ◌>>>◌, fault_in, in_entry, expected, version_read, mark_read}
use Rattle.jlr_trace.specs.Files.{entries_read, front_read, file_read}
use Rattle.jlr_trace.specs.Faults.{letters, FailsInHead, FailsInEntry, IsFault}
use Rattle.jlr_trace_entries.proofs.EntryLaws.{entry}
use Rattle.jlr_trace_entries.proofs.ImageLaws.{image}
use Rattle.jlr_trace.proofs.FileLaws.{Versioned, made_file, step_ok, field_ok, front_takes, mark_takes, mark_fits, expected_takes, whole}

-- ---- The step that failed

abbrev bad : {A : Type 0} → TraceFault → Result A TraceFault
bad d = Err d

bad_is : {A B : Type 0} (c d : TraceFault) → bad {A = A} c ≡ bad {A = A} d → bad {A = B} c ≡ bad {A = B} d
bad_is {A} {B} c d e = let same : c ≡ d = cc in ap {A = TraceFault} {B = Result B TraceFault} (λ x. Err x) same

step_err : {A B : Type 0} (r : Result A TraceFault) (f : A → Result B TraceFault) (d : TraceFault) → (r >>> f) ≡ Err d → (r ≡ Err d)
    ⊎ ((x : A) × (r ≡ Ok x) × (f x ≡ Err d))
step_err (Ok x) f d e = inr (x, refl, e)
step_err (Err c) f d e = inl (bad_is c d e)

field_err : {A : Type 0} (number : ℕ) (r : Result A Fault) (d : TraceFault) → in_entry number r ≡ Err d → (fault : Fault) × (r ≡ Err fault)
    × (fault_in number fault ≡ d)
field_err number (Ok x) d e = absurd cc
field_err number (Err fault) d e = (fault, refl, cc)

-- ---- The mark and the version

pub record Missed (byte : ℕ) (bytes : List ℕ) (d : TraceFault) : Type 0 where
  pub found : ℕ
  pub rest : List ℕ
  pub is : bytes ≡ found ∷ rest
  pub differs : found ≢ byte
  pub fault : BadMark ≡ d

apart : (b byte : ℕ) → nat_eq b byte ≡ false → b ≢ byte
apart b byte p s = true≢false (sym (eq-eqb b byte s) ∙ p)

expected_fails : (byte : ℕ) (bytes : List ℕ) (d : TraceFault) → expected byte bytes ≡ Err d → ((bytes ≡ []) × (Truncated ≡ d))
    ⊎ Missed byte bytes d
expected_fails byte [] d e = inl (refl, cc)
expected_fails byte (b ∷ rest) d e = by (nat_eq b byte) refl e
  where
    by : (c : Bool) → nat_eq b byte ≡ c → cond {A = Result (List ℕ) TraceFault} c (Ok rest) (Err BadMark) ≡ Err d
        → ((b ∷ rest ≡ []) × (Truncated ≡ d)) ⊎ Missed byte (b ∷ rest) d
    by true p e = absurd cc
    by false p e = inr (record { found = b; rest = rest; is = refl; differs = apart b byte p; fault = cc })

-- a letter of the mark that is not there
letter_fails : (front : List ℕ) (letter : ℕ) (others missing bytes x : List ℕ) (d : TraceFault) → front ++ letter ∷ others ≡ letters → front
    ++ missing ≡ mark One → missing ≢ []
    → bytes ≡ front ++ x → expected letter x ≡ Err d → IsFault d bytes
letter_fails front letter others missing bytes x d in_mark in_version some is e =
    elim (expected_fails letter x d e) [
      | inl ended ↦ subst (λ t. IsFault t bytes) ended.1 (inl (record {
        version = One;
        missing = missing;
        some = some;
        ends = ap (λ (t : List ℕ). t ++ missing) (is ∙ ap (λ (t : List ℕ). front ++ t) ended.0 ∙ append-nil front) ∙ in_version;
      }))
      | inr missed ↦ subst (λ t. IsFault t bytes) missed.fault (record {
        front = front;
        letter = letter;
        others = others;
        byte = missed.found;
        rest = missed.rest;
        mark = in_mark;
        is = is ∙ ap (λ (t : List ℕ). front ++ t) missed.is;
        differs = missed.differs;
      })
    ]

version_fails : (bytes x : List ℕ) (d : TraceFault) → bytes ≡ letters ++ x → version_read x ≡ Err d → IsFault d bytes
version_fails bytes [] d is e =
    let fault : Truncated ≡ d = cc in
    subst (λ t. IsFault t bytes) fault (inl (record {
      version = One;
      missing = 1 ∷ [];
      some = λ s. absurd cc;
      ends = ap (λ (t : List ℕ). t ++ 1 ∷ []) is;
    }))
version_fails bytes (b ∷ rest) d is e = by (nat_eq b 1) (nat_eq b 2) refl refl e
  where
    none : nat_eq b 1 ≡ false → nat_eq b 2 ≡ false → (version : Version) → b ≢ version_number version
    none p q One = apart b 1 p
    none p q Two = apart b 2 q

    by : (one two : Bool) → nat_eq b 1 ≡ one → nat_eq b 2 ≡ two
        → cond {A = Result (Version × List ℕ) TraceFault} one (Ok (One, rest))
        (cond {A = Result (Version × List ℕ) TraceFault} two (Ok (Two, rest)) (Err BadVersion)) ≡ Err d → IsFault d bytes
    by true two p q e = absurd cc
    by false true p q e = absurd cc
    by false false p q e =
        let fault : BadVersion ≡ d = cc in
        subst (λ t. IsFault t bytes) fault (record { number = b; rest = rest; is = is; unknown = none p q })

mark_fails : (bytes : List ℕ) (d : TraceFault) → mark_read bytes ≡ Err d → IsFault d bytes
unfolding mark_read
mark_fails bytes d e = at_version (step_err (expected 74 bytes >>> expected 76 >>> expected 82 >>> expected 84) version_read d e)
  where
    at_1 : expected 74 bytes ≡ Err d → IsFault d bytes
    at_1 e = letter_fails [] 74 (76 ∷ 82 ∷ 84 ∷ []) (mark One) bytes bytes d refl refl (λ s. absurd cc) refl e

    at_2 : (expected 74 bytes ≡ Err d) ⊎ ((x : List ℕ) × (expected 74 bytes ≡ Ok x) × (expected 76 x ≡ Err d)) → IsFault d bytes
    at_2 (inl e) = at_1 e
    at_2 (inr s) = letter_fails (74 ∷ []) 76 (82 ∷ 84 ∷ []) (76 ∷ 82 ∷ 84 ∷ 1 ∷ []) bytes s.0 d refl refl (λ s. absurd cc)
        (expected_takes 74 bytes s.0 s.1) s.2

    at_3 : ((expected 74 bytes >>> expected 76) ≡ Err d)
        ⊎ ((x : List ℕ) × ((expected 74 bytes >>> expected 76) ≡ Ok x) × (expected 82 x ≡ Err d)) → IsFault d bytes
    at_3 (inl e) = at_2 (step_err (expected 74 bytes) (expected 76) d e)
    at_3 (inr s) =
        let a = step_ok (expected 74 bytes) (expected 76) s.0 s.1 in
        letter_fails (74 ∷ 76 ∷ []) 82 (84 ∷ []) (82 ∷ 84 ∷ 1 ∷ []) bytes s.0 d refl refl (λ s. absurd cc)
        (expected_takes 74 bytes a.0 a.1 ∙ ap (λ (t : List ℕ). 74 ∷ t) (expected_takes 76 a.0 s.0 a.2)) s.2

    at_4 : ((expected 74 bytes >>> expected 76 >>> expected 82) ≡ Err d)
        ⊎ ((x : List ℕ) × ((expected 74 bytes >>> expected 76 >>> expected 82) ≡ Ok x) × (expected 84 x ≡ Err d)) → IsFault d bytes
    at_4 (inl e) = at_3 (step_err (expected 74 bytes >>> expected 76) (expected 82) d e)
    at_4 (inr s) =
        let b = step_ok (expected 74 bytes >>> expected 76) (expected 82) s.0 s.1 in
        let a = step_ok (expected 74 bytes) (expected 76) b.0 b.1 in
        letter_fails (74 ∷ 76 ∷ 82 ∷ []) 84 [] (84 ∷ 1 ∷ []) bytes s.0 d refl refl (λ s. absurd cc)
        (expected_takes 74 bytes a.0 a.1 ∙ ap (λ (t : List ℕ). 74 ∷ t) (expected_takes 76 a.0 b.0 a.2)
        ∙ ap (λ (t : List ℕ). 74 ∷ 76 ∷ t) (expected_takes 82 b.0 s.0 b.2)) s.2

    at_version : ((expected 74 bytes >>> expected 76 >>> expected 82 >>> expected 84) ≡ Err d)
        ⊎ ((x : List ℕ) × ((expected 74 bytes >>> expected 76 >>> expected 82 >>> expected 84) ≡ Ok x) × (version_read x ≡ Err d))
        → IsFault d bytes
    at_version (inl e) = at_4 (step_err (expected 74 bytes >>> expected 76 >>> expected 82) (expected 84) d e)
    at_version (inr s) =
        let c = step_ok (expected 74 bytes >>> expected 76 >>> expected 82) (expected 84) s.0 s.1 in
        let b = step_ok (expected 74 bytes >>> expected 76) (expected 82) c.0 c.1 in
        let a = step_ok (expected 74 bytes) (expected 76) b.0 b.1 in
        version_fails bytes s.0 d
        (expected_takes 74 bytes a.0 a.1 ∙ ap (λ (t : List ℕ). 74 ∷ t) (expected_takes 76 a.0 b.0 a.2)
        ∙ ap (λ (t : List ℕ). 74 ∷ 76 ∷ t) (expected_takes 82 b.0 c.0 b.2)
        ∙ ap (λ (t : List ℕ). 74 ∷ 76 ∷ 82 ∷ t) (expected_takes 84 c.0 s.0 c.2)) s.2

-- ---- The entries

-- so many entries are spelled at the front, and the next one has a fault
pub record Stops (version : Version) (number n : ℕ) (bytes : List ℕ) (d : TraceFault) : Type 0 where
  pub entries : List Entry
  pub rest : List ℕ
  pub fault : Fault
  pub fit : AllByRecursion (EntryFits version) entries
  pub spelled : bytes ≡ flat_map (spelled_entry version) entries ++ rest
  pub more : length entries < n
  pub fails : entry_read version rest ≡ Err fault
  pub told : fault_in (number + length entries) fault ≡ d

never : (x : List Entry × List ℕ) (d : TraceFault) → Ok x ≡ bad d → true ≡ false
never x d e = absurd cc

never_file : (x : FileText × List ℕ) (d : TraceFault) → Ok x ≡ bad d → true ≡ false
never_file x d e = absurd cc

entries_fail : (version : Version) (number n : ℕ) (bytes : List ℕ) (d : TraceFault) → IsBytes bytes
    → entries_read version number n bytes ≡ Err d → Stops version number n bytes d
unfolding entries_read
entries_fail version number zero bytes d fits e = absurd cc
entries_fail version number (suc n) bytes d fits e =
    elim (step_err (in_entry number (entry_read version bytes))
    (λ first. entries_read version (suc number) n first.1 >>> λ others. Ok (first.0 ∷ others.0, others.1)) d e) [
      | inl failed ↦
          let f = field_err number (entry_read version bytes) d failed in
          record {
            entries = [];
            rest = bytes;
            fault =
                f.0;
            fit = tt;
            spelled = refl;
            more = omega arith;
            fails = f.1;
            told = ap (λ k. fault_in k f.0) (omega arith) ∙ f.2;
          }
      | inr first ↦
          let taken = (entry version).takes bytes first.0.0 first.0.1 fits (field_ok number (entry_read version bytes) first.0 first.1) in
          elim (step_err (entries_read version (suc number) n first.0.1) (λ others. Ok (first.0.0 ∷ others.0, others.1)) d first.2) [
            | inl failed ↦
                let later = entries_fail version (suc number) n first.0.1 d taken.0.rest_fits failed in
                record {
                  entries = first.0.0 ∷ later.entries;
                  rest = later.rest;
                  fault = later.fault;
                  fit = (taken.1, later.fit);
                  spelled = taken.0.parts ∙ ap (λ (t : List ℕ). spelled_entry version first.0.0 ++ t) later.spelled
                      ∙ sym (append_assoc (spelled_entry version first.0.0) (flat_map (spelled_entry version) later.entries) later.rest)
                      ∙ ap (λ (t : List ℕ). t ++ later.rest) (sym (flat_map-cons (spelled_entry version) first.0.0 later.entries));
                  more = omega (arith, later.more);
                  fails = later.fails;
                  told = ap (λ k. fault_in k later.fault) (omega arith) ∙ later.told;
                }
            | inr others ↦ absurd (true≢false (never (first.0.0 ∷ others.0.0, others.0.1) d others.2))
          ]
    ]

-- ---- Files

abbrev read_to : FileText → List ℕ → Result (FileText × List ℕ) TraceFault
read_to file rest = Ok (file, rest)

head_fault : (fault : Fault) (bytes : List ℕ) (d : TraceFault) → fault_in 0 fault ≡ d → FailsInHead fault bytes → IsFault d bytes
head_fault Short bytes d e head = subst (λ t. IsFault t bytes) e (inr (inl head))
head_fault Range bytes d e head = subst (λ t. IsFault t bytes) e (inl (refl, head))

entry_fault : (fault : Fault) (number : ℕ) (bytes : List ℕ) (d : TraceFault) → fault_in number fault ≡ d → FailsInEntry fault number bytes
    → IsFault d bytes
entry_fault Short number bytes d e fails = subst (λ t. IsFault t bytes) e (inr (inr (number, fails)))
entry_fault Range number bytes d e fails = subst (λ t. IsFault t bytes) e (inr (inl fails))

front_fails : (bytes : List ℕ) (d : TraceFault) → IsBytes bytes → front_read bytes ≡ Err d → IsFault d bytes
unfolding front_read
front_fails bytes d fits e =
    elim (step_err (mark_read bytes) (λ (v : Versioned). in_entry 0 (image_read v.0 v.1) >>> λ image. in_entry 0 (number_at w64 image.1) >>>
    λ count. entries_read v.0 1 count.0 count.1 >>> λ entries. read_to (made_file v.0 image.0 entries.0) entries.1) d e) [
      | inl failed ↦ mark_fails bytes d failed
      | inr a ↦ behind_mark a.0.0 a.0.1 (mark_takes bytes a.0 a.1) a.2
    ]
  where
    behind_count : (v : Version) (i : ImageText) (count : ℕ) (b1 b2 b3 : List ℕ) → bytes ≡ mark v ++ b1 → ImageFits v i
        → b1 ≡ spelled_image i ++ b2 → b2 ≡ spelled_64 count ++ b3 → IsBytes b3
        → (entries_read v 1 count b3 >>> λ entries. read_to (made_file v i entries.0) entries.1) ≡ Err d → IsFault d bytes
    behind_count v i count b1 b2 b3 start image_fits p q fits_3 e =
        elim (step_err (entries_read v 1 count b3) (λ entries. read_to (made_file v i entries.0) entries.1) d e) [
          | inl failed ↦
              let s = entries_fail v 1 count b3 d fits_3 failed in
              entry_fault s.fault (suc (length s.entries)) bytes d (ap (λ k. fault_in k s.fault) (omega arith) ∙ s.told) (record {
                version = v;
                count = count;
                entries = s.entries;
                rest = s.rest;
                more = s.more;
                fails = s.fails;
                numbered = refl;
                begins = record {
                  image = i;
                  fits = image_fits;
                  entries_fit = s.fit;
                  spelled =
                      whole (mark v) (spelled_image i) (spelled_64 count) (flat_map (spelled_entry v) s.entries) s.rest bytes b1 b2 b3 start
                      p
                      q s.spelled;
                };
              })
          | inr others ↦ absurd (true≢false (never_file (made_file v i others.0.0, others.0.1) d others.2))
        ]

    behind_image : (v : Version) (i : ImageText) (b1 b2 : List ℕ) → bytes ≡ mark v ++ b1 → ImageFits v i → b1 ≡ spelled_image i ++ b2
        → IsBytes b2
        → (in_entry 0 (number_at w64 b2) >>> λ count. entries_read v 1 count.0 count.1 >>> λ entries. read_to (made_file v i entries.0)
        entries.1) ≡ Err d → IsFault d bytes
    behind_image v i b1 b2 start image_fits p fits_2 e =
        elim (step_err (in_entry 0 (number_at w64 b2)) (λ count. entries_read v 1 count.0 count.1 >>> λ entries. read_to
        (made_file v i entries.0) entries.1) d e) [
          | inl failed ↦
              let f = field_err 0 (number_at w64 b2) d failed in
              head_fault f.0 bytes d f.2 (record { version = v; behind = b1; is = start; fails = inr (i, b2, image_fits, p, f.1) })
          | inr c ↦
              let n = eight_bytes.takes b2 c.0.0 c.0.1 fits_2 (field_ok 0 (number_at w64 b2) c.0 c.1) in
              behind_count v i c.0.0 b1 b2 c.0.1 start image_fits p n.0.parts n.0.rest_fits c.2
        ]

    behind_mark : (v : Version) (b1 : List ℕ) → bytes ≡ mark v ++ b1
        → (in_entry 0 (image_read v b1) >>> λ image. in_entry 0 (number_at w64 image.1) >>> λ count. entries_read v 1 count.0 count.1 >>>
        λ entries. read_to (made_file v image.0 entries.0) entries.1) ≡ Err d → IsFault d bytes
    behind_mark v b1 start e =
        elim (step_err (in_entry 0 (image_read v b1)) (λ image. in_entry 0 (number_at w64 image.1) >>> λ count. entries_read v 1 count.0
        count.1 >>> λ entries. read_to (made_file v image.0 entries.0) entries.1) d e) [
          | inl failed ↦
              let f = field_err 0 (image_read v b1) d failed in
              head_fault f.0 bytes d f.2 (record { version = v; behind = b1; is = start; fails = inl f.1 })
          | inr b ↦
              let i = (image v).takes b1 b.0.0 b.0.1 (mark_fits v bytes b1 start fits) (field_ok 0 (image_read v b1) b.0 b.1) in
              behind_image v b.0.0 b1 b.0.1 start i.1 i.0.parts i.0.rest_fits b.2
        ]

more_behind : (b : Bool) (f d : TraceFault) (x : FileText) → cond b (Ok x) (Err f) ≡ bad d → (b ≡ false) × (f ≡ d)
more_behind true f d x e = absurd cc
more_behind false f d x e = (refl, cc)

file_fails : (bytes : List ℕ) (d : TraceFault) → IsBytes bytes → file_read bytes ≡ Err d → IsFault d bytes
unfolding file_read
file_fails bytes d fits e =
    elim (step_err (front_read bytes) (λ file. cond (nat_eq (length file.1) 0) (Ok file.0) (Err (BadEntry (length file.0.entries + 1)))) d
    e) [
      | inl failed ↦ front_fails bytes d fits failed
      | inr a ↦
          let g = more_behind (nat_eq (length a.0.1) 0) (BadEntry (length a.0.0.entries + 1)) d a.0.0 a.2 in
          let r = front_takes bytes a.0.0 a.0.1 fits a.1 in
          subst (λ t. IsFault t bytes) g.1 (inr (inr (record {
            version = a.0.0.version;
            count = length a.0.0.entries;
            entries = a.0.0.entries;
            rest = a.0.1;
            all = refl;
            numbered = omega arith;
            some = λ (s : a.0.1 ≡ []). true≢false (sym (ap (λ (t : List ℕ). nat_eq (length t) 0) s) ∙ g.0);
            begins = record { image = a.0.0.image; fits = r.1.image; entries_fit = r.1.entries; spelled = r.0 };
          })))
    ]

-- ---- What reading a file promises

pub is_fault : {X : Type 0} (view : X → FileText) (bytes : List ℕ) (r : Result X TraceFault) → IsBytes bytes
    → FileGives view r (file_read bytes) → IfErr r (λ d. IsFault d bytes)
is_fault view bytes (Ok f) fits given = tt
is_fault view bytes (Err Truncated) fits given = file_fails bytes Truncated fits given
is_fault view bytes (Err BadMark) fits given = file_fails bytes BadMark fits given
is_fault view bytes (Err BadVersion) fits given = file_fails bytes BadVersion fits given
is_fault view bytes (Err (BadEntry k)) fits given = file_fails bytes (BadEntry k) fits given
is_fault view bytes (Err NoMemory) fits given = tt
