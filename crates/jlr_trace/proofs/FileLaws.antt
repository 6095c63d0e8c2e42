-- Whole files: what is read is what was written, and what was written is read again.
use Rattle.std.proofs.Common.{◌≡◌, ℕ, zero, suc, ◌+◌, Bool, true, false, cond, List, [], ◌∷◌, ◌++◌, length, Result, Ok, Err, refl, sym, ap}
use Rattle.std.proofs.Common.{subst, ◌∙◌, append_assoc, arith}
use Rattle.std.specs.Prelude.{IfOk, nat_eq}
use Rattle.std.specs.List.{flat_map, AllByRecursion}
use Rattle.std.specs.Int.{w64}
use Rattle.std.proofs.lemmas.Bool.{eqb-true}
use Rattle.std.proofs.lemmas.List.{append-nil, nil_from_length}
use Rattle.std.proofs.lemmas.List.Concat.{flat_map-cons}
use Rattle.jlr_machine.specs.declared.entry.Entry.{Entry}
use Rattle.jlr_trace_fields.specs.declared.fault.Fault.{Fault}
use Rattle.jlr_trace_fields.specs.declared.version.Version.{Version}
use Rattle.jlr_trace_fields.specs.declared.version.Version.TheVariants.{One, Two}
use Rattle.jlr_trace_fields.specs.Reading.{number_at}
use Rattle.jlr_trace_fields.specs.Spelling.{spelled_64, IsBytes}
use Rattle.jlr_trace_fields.specs.Laws.{Takes}
use Rattle.jlr_trace_fields.proofs.Steps.{Takes-then}
use Rattle.jlr_trace_fields.proofs.Numbers.{eight_bytes}
use Rattle.jlr_trace.specs.declared.file.TraceFile.{TraceFile}
use Rattle.jlr_trace.specs.declared.file.TraceFault.{TraceFault}
use Rattle.jlr_trace.specs.declared.file.TraceFault.TheVariants.{BadMark, BadVersion, BadEntry}
use Rattle.jlr_trace_entries.specs.Entries.{spelled_entry, EntryFits, entry_read}
use Rattle.jlr_trace_entries.specs.Images.{ImageText, spelled_image, image_read}
use Rattle.jlr_trace.specs.Files.{FileText, file_text, version_number, mark, spelled_file, FileFits, ◌>>>◌, in_entry, expected}
use Rattle.jlr_trace.specs.Files.{version_read, mark_read, entries_read, front_read, file_read, FileGives}
use Rattle.jlr_trace_entries.proofs.EntryLaws.{entry}
use Rattle.jlr_trace_entries.proofs.ImageLaws.{image}

-- the value of a step that did not fail
pub step_ok : {A B : Type 0} (r : Result A TraceFault) (f : A → Result B TraceFault) (y : B) → (r >>> f) ≡ Ok y → (x : A) × (r ≡ Ok x)
    × (f x ≡ Ok y)
step_ok (Ok x) f y e = (x, refl, e)
step_ok (Err d) f y e = absurd cc

pub field_ok : {A : Type 0} (number : ℕ) (r : Result A Fault) (y : A) → in_entry number r ≡ Ok y → r ≡ Ok y
field_ok number (Ok x) y e = let same : x ≡ y = cc in ap (λ v. Ok v) same
field_ok number (Err f) y e = absurd cc

abbrev pub good : {A : Type 0} → A → Result A TraceFault
good x = Ok x

pub good_is : {A : Type 0} (x y : A) → good x ≡ good y → x ≡ y
good_is x y e = cc

-- ---- The mark and the version

chosen : (b : Bool) (fault : TraceFault) (x y : List ℕ) → cond b (Ok x) (Err fault) ≡ Ok y → (b ≡ true) × (x ≡ y)
chosen true fault x y e = (refl, cc)
chosen false fault x y e = absurd cc

pub expected_takes : (byte : ℕ) (bytes rest : List ℕ) → expected byte bytes ≡ Ok rest → bytes ≡ byte ∷ rest
expected_takes byte [] rest e = absurd cc
expected_takes byte (b ∷ bytes) rest e =
    let c = chosen (nat_eq b byte) BadMark bytes rest e in
    ap (λ n. n ∷ bytes) (eqb-true b byte c.0) ∙ ap (λ (t : List ℕ). byte ∷ t) c.1

abbrev pub Versioned : Type 0
Versioned = Version × List ℕ

version_is : (b : ℕ) (bytes : List ℕ) (y : Versioned) (one two : Bool) → nat_eq b 1 ≡ one → nat_eq b 2 ≡ two
    → cond {A = Result Versioned TraceFault} one (Ok (One, bytes))
    (cond {A = Result Versioned TraceFault} two (Ok (Two, bytes)) (Err BadVersion)) ≡ Ok y → b ∷ bytes ≡ version_number y.0 ∷ y.1
version_is b bytes y true two is other e =
    let made : Versioned = (One, bytes) in
    let same : b ≡ 1 = eqb-true b 1 is in
    subst (λ (v : Versioned). b ∷ bytes ≡ version_number v.0 ∷ v.1) (good_is made y e) (ap (λ n. n ∷ bytes) same)
version_is b bytes y false true other is e =
    let made : Versioned = (Two, bytes) in
    let same : b ≡ 2 = eqb-true b 2 is in
    subst (λ (v : Versioned). b ∷ bytes ≡ version_number v.0 ∷ v.1) (good_is made y e) (ap (λ n. n ∷ bytes) same)
version_is b bytes y false false p q e = absurd cc

version_takes : (bytes : List ℕ) (y : Versioned) → version_read bytes ≡ Ok y → bytes ≡ version_number y.0 ∷ y.1
version_takes [] y e = absurd cc
version_takes (b ∷ bytes) y e = version_is b bytes y (nat_eq b 1) (nat_eq b 2) refl refl e

-- five bytes, one behind the other
five_bytes : (bytes a b c d rest : List ℕ) (n : ℕ) → bytes ≡ 74 ∷ a → a ≡ 76 ∷ b → b ≡ 82 ∷ c → c ≡ 84 ∷ d → d ≡ n ∷ rest
    → bytes ≡ 74 ∷ 76 ∷ 82 ∷ 84 ∷ n ∷ rest
five_bytes bytes a b c d rest n p q r s t = rw (p, q, r, s, t) refl

pub mark_takes : (bytes : List ℕ) (y : Versioned) → mark_read bytes ≡ Ok y → bytes ≡ mark y.0 ++ y.1
unfolding mark_read
mark_takes bytes y e =
    let d = step_ok (expected 74 bytes >>> expected 76 >>> expected 82 >>> expected 84) version_read y e in
    let c = step_ok (expected 74 bytes >>> expected 76 >>> expected 82) (expected 84) d.0 d.1 in
    let b = step_ok (expected 74 bytes >>> expected 76) (expected 82) c.0 c.1 in
    let a = step_ok (expected 74 bytes) (expected 76) b.0 b.1 in
    let five : d.0 ≡ version_number y.0 ∷ y.1 = version_takes d.0 y d.2 in
    let four : c.0 ≡ 84 ∷ d.0 = expected_takes 84 c.0 d.0 c.2 in
    let three : b.0 ≡ 82 ∷ c.0 = expected_takes 82 b.0 c.0 b.2 in
    let two : a.0 ≡ 76 ∷ b.0 = expected_takes 76 a.0 b.0 a.2 in
    let one : bytes ≡ 74 ∷ a.0 = expected_takes 74 bytes a.0 a.1 in
    five_bytes bytes a.0 b.0 c.0 d.0 y.1 (version_number y.0) one two three four five

mark_again : (version : Version) (rest : List ℕ) → mark_read (mark version ++ rest) ≡ Ok (version, rest)
unfolding mark_read
mark_again One rest = refl
mark_again Two rest = refl

pub mark_fits : (version : Version) (bytes rest : List ℕ) → bytes ≡ mark version ++ rest → IsBytes bytes → IsBytes rest
mark_fits version bytes rest e fits i = subst (λ (b : List ℕ). IsBytes b) e fits (suc (suc (suc (suc (suc i)))))

-- ---- Entries

pub entries_take : (version : Version) (number n : ℕ) (bytes : List ℕ) (xs : List Entry) (rest : List ℕ) → IsBytes bytes
    → entries_read version number n bytes ≡ Ok (xs, rest)
    → Takes bytes (flat_map (spelled_entry version) xs) rest × (length xs ≡ n) × AllByRecursion (EntryFits version) xs
unfolding entries_read
entries_take version number zero bytes xs rest fits e =
    let nothing : List Entry × List ℕ = ([], bytes) in
    subst (λ (y : List Entry × List ℕ). Takes bytes (flat_map (spelled_entry version) y.0) y.1 × (length y.0 ≡ 0)
    × AllByRecursion (EntryFits version) y.0) (good_is nothing (xs, rest) e) (record { parts = refl; rest_fits = fits }, refl, tt)
entries_take version number (suc n) bytes xs rest fits e =
    let a = step_ok (in_entry number (entry_read version bytes))
    (λ first. entries_read version (suc number) n first.1 >>> λ others. Ok (first.0 ∷ others.0, others.1)) (xs, rest) e in
    let b = step_ok (entries_read version (suc number) n a.0.1) (λ others. Ok (a.0.0 ∷ others.0, others.1)) (xs, rest) a.2 in
    let first = (entry version).takes bytes a.0.0 a.0.1 fits (field_ok number (entry_read version bytes) a.0 a.1) in
    let second = entries_take version (suc number) n a.0.1 b.0.0 b.0.1 first.0.rest_fits b.1 in
    let both = Takes-then bytes (spelled_entry version a.0.0) a.0.1 (flat_map (spelled_entry version) b.0.0) b.0.1 first.0 second.0 in
    let made : List Entry × List ℕ = (a.0.0 ∷ b.0.0, b.0.1) in
    subst (λ (y : List Entry × List ℕ). Takes bytes (flat_map (spelled_entry version) y.0) y.1 × (length y.0 ≡ suc n)
    × AllByRecursion (EntryFits version) y.0) (good_is made (xs, rest) b.2) (
      subst (λ (t : List ℕ). Takes bytes t b.0.1) (sym (flat_map-cons (spelled_entry version) a.0.0 b.0.0)) both,
      ap suc second.1,
      (first.1, second.2),
    )

entries_again : (version : Version) (number : ℕ) (xs : List Entry) (rest : List ℕ) → AllByRecursion (EntryFits version) xs
    → entries_read version number (length xs) (flat_map (spelled_entry version) xs ++ rest) ≡ Ok (xs, rest)
unfolding entries_read
entries_again version number [] rest fits = refl
entries_again version number (x ∷ xs) rest fits =
    let regrouped : flat_map (spelled_entry version) (x ∷ xs) ++ rest ≡ spelled_entry version x
    ++ (flat_map (spelled_entry version) xs ++ rest) = ap (λ (y : List ℕ). y ++ rest) (flat_map-cons (spelled_entry version) x xs)
    ∙ append_assoc (spelled_entry version x) (flat_map (spelled_entry version) xs) rest in
    ap (entries_read version number (suc (length xs))) regrouped
    ∙ rw (
      (entry version).again x (flat_map (spelled_entry version) xs ++ rest) fits.0,
      entries_again version (suc number) xs rest fits.1,
    ) refl

-- ---- Files

abbrev pub made_file : Version → ImageText → List Entry → FileText
made_file version image entries = record { version = version; image = image; entries = entries }

pub whole : (m i c e rest bytes b1 b2 b3 : List ℕ) → bytes ≡ m ++ b1 → b1 ≡ i ++ b2 → b2 ≡ c ++ b3 → b3 ≡ e ++ rest
    → bytes ≡ (((m ++ i) ++ c) ++ e) ++ rest
whole m i c e rest bytes b1 b2 b3 p q r s =
    p ∙ ap (λ (t : List ℕ). m ++ t) (q ∙ ap (λ (t : List ℕ). i ++ t) (r ∙ ap (λ (t : List ℕ). c ++ t) s)) ∙ simp append_assoc

-- what is read at the front is spelled so
pub front_takes : (bytes : List ℕ) (t : FileText) (rest : List ℕ) → IsBytes bytes → front_read bytes ≡ Ok (t, rest)
    → (bytes ≡ spelled_file t ++ rest) × FileFits t
unfolding front_read
front_takes bytes t rest fits e =
    let a = step_ok (mark_read bytes) (λ (v : Versioned). in_entry 0 (image_read v.0 v.1) >>> λ image. in_entry 0 (number_at w64 image.1)
    >>> λ count. entries_read v.0 1 count.0 count.1 >>> λ entries. Ok (made_file v.0 image.0 entries.0, entries.1)) (t, rest) e in
    let v : Version = a.0.0 in
    let b = step_ok (in_entry 0 (image_read v a.0.1))
    (λ image. in_entry 0 (number_at w64 image.1) >>> λ count. entries_read v 1 count.0 count.1 >>> λ entries. Ok
    (made_file v image.0 entries.0, entries.1)) (t, rest) a.2 in
    let c = step_ok (in_entry 0 (number_at w64 b.0.1))
    (λ count. entries_read v 1 count.0 count.1 >>> λ entries. Ok (made_file v b.0.0 entries.0, entries.1)) (t, rest) b.2 in
    let d = step_ok (entries_read v 1 c.0.0 c.0.1) (λ entries. Ok (made_file v b.0.0 entries.0, entries.1)) (t, rest) c.2 in
    let start : bytes ≡ mark v ++ a.0.1 = mark_takes bytes a.0 a.1 in
    let i = (image v).takes a.0.1 b.0.0 b.0.1 (mark_fits v bytes a.0.1 start fits) (field_ok 0 (image_read v a.0.1) b.0 b.1) in
    let n = eight_bytes.takes b.0.1 c.0.0 c.0.1 i.0.rest_fits (field_ok 0 (number_at w64 b.0.1) c.0 c.1) in
    let x = entries_take v 1 c.0.0 c.0.1 d.0.0 d.0.1 n.0.rest_fits d.1 in
    let counted : c.0.1 ≡ flat_map (spelled_entry v) d.0.0 ++ d.0.1 = x.0.parts in
    let parts = whole (mark v) (spelled_image b.0.0) (spelled_64 c.0.0) (flat_map (spelled_entry v) d.0.0) d.0.1 bytes a.0.1 b.0.1 c.0.1
    start i.0.parts n.0.parts counted in
    let made : FileText × List ℕ = (made_file v b.0.0 d.0.0, d.0.1) in
    subst (λ (y : FileText × List ℕ). (bytes ≡ spelled_file y.0 ++ y.1) × FileFits y.0) (good_is made (t, rest) d.2) (
      parts ∙ ap (λ k. (((mark v ++ spelled_image b.0.0) ++ spelled_64 k) ++ flat_map (spelled_entry v) d.0.0) ++ d.0.1) (sym x.1),
      record { image = i.1; count = omega (arith, x.1, n.1); entries = x.2 },
    )

regrouped : (m i c e rest : List ℕ) → (((m ++ i) ++ c) ++ e) ++ rest ≡ m ++ (i ++ (c ++ (e ++ rest)))
regrouped m i c e rest = simp append_assoc

-- what is spelled so is read again, whatever follows
pub front_again : (t : FileText) (rest : List ℕ) → FileFits t → front_read (spelled_file t ++ rest) ≡ Ok (t, rest)
unfolding front_read
front_again t rest fits =
    let i : List ℕ = spelled_image t.image in
    let c : List ℕ = spelled_64 (length t.entries) in
    let e : List ℕ = flat_map (spelled_entry t.version) t.entries in
    ap front_read (regrouped (mark t.version) i c e rest)
    ∙ rw (
      mark_again t.version (i ++ (c ++ (e ++ rest))),
      (image t.version).again t.image (c ++ (e ++ rest)) fits.image,
      eight_bytes.again (length t.entries) (e ++ rest) fits.count,
      entries_again t.version 1 t.entries rest fits.entries,
    ) refl

pub ended : (b : Bool) (f : TraceFault) (x y : FileText) → cond b (Ok x) (Err f) ≡ Ok y → (b ≡ true) × (x ≡ y)
ended true f x y e = (refl, cc)
ended false f x y e = absurd cc

pub file_takes : (bytes : List ℕ) (t : FileText) → IsBytes bytes → file_read bytes ≡ Ok t → FileFits t × (bytes ≡ spelled_file t)
unfolding file_read
file_takes bytes t fits e =
    let a = step_ok (front_read bytes) (λ file. cond (nat_eq (length file.1) 0) (Ok file.0) (Err (BadEntry (length file.0.entries + 1)))) t
    e in
    let g = ended (nat_eq (length a.0.1) 0) (BadEntry (length a.0.0.entries + 1)) a.0.0 t a.2 in
    let r = front_takes bytes a.0.0 a.0.1 fits a.1 in
    let nothing : a.0.1 ≡ [] = nil_from_length a.0.1 (eqb-true _ _ g.0) in
    subst (λ (y : FileText). FileFits y × (bytes ≡ spelled_file y)) g.1
    (r.1, r.0 ∙ ap (λ (b : List ℕ). spelled_file a.0.0 ++ b) nothing ∙ append-nil (spelled_file a.0.0))

pub file_again : (t : FileText) → FileFits t → file_read (spelled_file t) ≡ Ok t
unfolding file_read
file_again t fits =
    let front : front_read (spelled_file t) ≡ Ok (t, []) = ap front_read (sym (append-nil (spelled_file t))) ∙ front_again t [] fits in
    rw front refl

-- ---- What reading a file promises

pub is_found : (bytes : List ℕ) (r : Result TraceFile TraceFault) → IsBytes bytes → FileGives file_text r (file_read bytes)
    → IfOk r (λ f. FileFits (file_text f) × (bytes ≡ spelled_file (file_text f)))
is_found bytes (Ok f) fits given = file_takes bytes (file_text f) fits given
is_found bytes (Err e) fits given = tt

-- no spelling is a proper prefix of another
pub no_prefix : (t u : FileText) (rest : List ℕ) → FileFits t → FileFits u → spelled_file t ++ rest ≡ spelled_file u → (rest ≡ []) × (t ≡ u)
no_prefix t u rest p q e =
    let one : front_read (spelled_file t ++ rest) ≡ Ok (t, rest) = front_again t rest p in
    let other : front_read (spelled_file u ++ []) ≡ Ok (u, []) = front_again u [] q in
    let first : FileText × List ℕ = (t, rest) in
    let second : FileText × List ℕ = (u, []) in
    let same : good first ≡ good second = sym one ∙ ap front_read (e ∙ sym (append-nil (spelled_file u))) ∙ other in
    let pair : first ≡ second = good_is first second same in
    (ap (λ (y : FileText × List ℕ). y.1) pair, ap (λ (y : FileText × List ℕ). y.0) pair)
