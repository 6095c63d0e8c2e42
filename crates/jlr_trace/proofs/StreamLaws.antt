-- How many bytes the head of a file and an entry take, and that a file is its head and the entries behind it.
use Rattle.std.proofs.Common.{◌≡◌, ◌+◌, ◌-◌, ◌<◌, ◌≤◌, ℕ, zero, suc, Bool, true, false, cond, List, [], ◌∷◌, ◌++◌, length, drop, Option}
use Rattle.std.proofs.Common.{Some, None, Result, Ok, Err, refl, sym, ap, subst, ◌∙◌, arith}
use Rattle.std.specs.Prelude.{option_map, nat_eq, OnOk, IfErr}
use Rattle.std.specs.Int.{w64}
use Rattle.std.specs.Io.KnownBytes.{IsAtEnd, prepend_known}
use Rattle.jlr_machine.specs.declared.entry.Entry.{Entry}
use Rattle.jlr_machine.specs.declared.machine.Machine.{Machine}
use Rattle.jlr_trace_fields.specs.declared.parts.record.Placed.{Placed}
use Rattle.jlr_trace_fields.specs.declared.version.Version.{Version}
use Rattle.jlr_trace_fields.specs.Reading.{number_at}
use Rattle.jlr_trace_fields.specs.Spelling.{spelled_64, IsBytes}
use Rattle.jlr_trace_fields.specs.Laws.{Takes}
use Rattle.jlr_trace_fields.proofs.Steps.{Takes-then}
use Rattle.jlr_trace_fields.proofs.Numbers.{eight_bytes}
use Rattle.jlr_trace_entries.specs.Entries.{spelled_entry, entry_read}
use Rattle.jlr_trace_entries.specs.Images.{ImageText, image_text, whole_image, HasShape, spelled_image, image_read}
use Rattle.jlr_trace_entries.proofs.EntryLaws.{entry}
use Rattle.jlr_trace_entries.proofs.ImageLaws.{image}
use Rattle.jlr_trace.specs.declared.file.TraceFault.{TraceFault}
use Rattle.jlr_trace.specs.declared.file.TraceFault.TheVariants.{Truncated, BadMark, BadVersion, BadEntry, NoMemory}
use Rattle.jlr_trace.specs.declared.window.StreamFault.{StreamFault}
use Rattle.jlr_trace.specs.declared.window.StreamFault.TheVariants.{Unread, Damaged}
use Rattle.jlr_trace.specs.Files.{FileText, file_text, spelled_file, HasSpelling, mark, ◌>>>◌, in_entry, mark_read, entries_read}
use Rattle.jlr_trace.specs.Files.{front_read, file_read, FileFails}
use Rattle.jlr_trace.specs.Streams.{HeadingText, heading_text, heading_read, end_read, entries_left, behind_entry, with_entries, HeldBytes}
use Rattle.jlr_trace.specs.Streams.{known, Coming, coming, NoneComes, AreBytes, ReadsOn, FailsOn, ComesFirst, Comes, IsReadAs}
use Rattle.jlr_trace.specs.Streams.{SpellsWhatComes, history, AreSoMany}
use Rattle.jlr_trace.proofs.FileLaws.{step_ok, field_ok, good_is, mark_takes, mark_fits, file_takes}
use Rattle.jlr_trace.proofs.Windows.{used_up}

-- ---- How many bytes they take

abbrev with_count : Version → ImageText → ℕ × List ℕ → Result (HeadingText × List ℕ) TraceFault
with_count version image count = Ok (heading_text version image count.0, count.1)

abbrev behind_image : Version → ImageText × List ℕ → Result (HeadingText × List ℕ) TraceFault
behind_image version i = in_entry 0 (number_at w64 i.1) >>> with_count version i.0

abbrev behind_mark : Version × List ℕ → Result (HeadingText × List ℕ) TraceFault
behind_mark version = in_entry 0 (image_read version.0 version.1) >>> behind_image version.0

heading_takes : (bytes : List ℕ) (y : HeadingText × List ℕ) → IsBytes bytes → heading_read bytes ≡ Ok y → (text : List ℕ)
    × Takes bytes text y.1
unfolding heading_read
heading_takes bytes y fits e =
    let v = step_ok (mark_read bytes) behind_mark y e in
    let i = step_ok (in_entry 0 (image_read v.0.0 v.0.1)) (behind_image v.0.0) y v.2 in
    let c = step_ok (in_entry 0 (number_at w64 i.0.1)) (with_count v.0.0 i.0.0) y i.2 in
    let parts : bytes ≡ mark v.0.0 ++ v.0.1 = mark_takes bytes v.0 v.1 in
    let first : Takes bytes (mark v.0.0) v.0.1 = record { parts = parts; rest_fits = mark_fits v.0.0 bytes v.0.1 parts fits } in
    let second = ((image v.0.0).takes v.0.1 i.0.0 i.0.1 first.rest_fits (field_ok 0 (image_read v.0.0 v.0.1) i.0 i.1)).0 in
    let third = (eight_bytes.takes i.0.1 c.0.0 c.0.1 second.rest_fits (field_ok 0 (number_at w64 i.0.1) c.0 c.1)).0 in
    let two : Takes bytes (mark v.0.0 ++ spelled_image i.0.0) i.0.1 =
    Takes-then bytes (mark v.0.0) v.0.1 (spelled_image i.0.0) i.0.1 first second in
    let three : Takes bytes ((mark v.0.0 ++ spelled_image i.0.0) ++ spelled_64 c.0.0) c.0.1 =
    Takes-then bytes (mark v.0.0 ++ spelled_image i.0.0) i.0.1 (spelled_64 c.0.0) c.0.1 two third in
    let made : HeadingText × List ℕ = (heading_text v.0.0 i.0.0 c.0.0, c.0.1) in
    let rest : c.0.1 ≡ y.1 = ap (λ (p : HeadingText × List ℕ). p.1) (good_is made y c.2) in (
      (mark v.0.0 ++ spelled_image i.0.0) ++ spelled_64 c.0.0,
      subst (λ (b : List ℕ). Takes bytes ((mark v.0.0 ++ spelled_image i.0.0) ++ spelled_64 c.0.0) b) rest three,
    )

pub heading_used : (bytes : List ℕ) (h : HeadingText) (rest : List ℕ) → IsBytes bytes → heading_read bytes ≡ Ok (h, rest)
    → (length rest ≤ length bytes) × (drop (length bytes - length rest) bytes ≡ rest)
heading_used bytes h rest fits e =
    let t = heading_takes bytes (h, rest) fits e in
    used_up bytes t.0 rest t.1.parts

pub entry_used : (version : Version) (bytes : List ℕ) (e : Entry) (rest : List ℕ) → IsBytes bytes → entry_read version bytes ≡ Ok (e, rest)
    → (length rest ≤ length bytes) × (drop (length bytes - length rest) bytes ≡ rest)
entry_used version bytes e rest fits h = used_up bytes (spelled_entry version e) rest ((entry version).takes bytes e rest fits h).0.parts

-- so many bytes were used, and these are left
pub left_over : {A : Type 0} (read : Result (A × List ℕ) TraceFault) (x : A) (bytes rest : List ℕ) (count : ℕ) → read ≡ Ok (x, rest)
    → count ≡ length bytes - length rest → drop (length bytes - length rest) bytes ≡ rest
    → read ≡ Ok (x, drop count bytes)
left_over {A} read x bytes rest count e used left = e ∙ ap (λ (r : List ℕ). Ok (x, r)) (sym left ∙ ap (λ (n : ℕ). drop n bytes) (sym used))

-- ---- What comes of the entries

-- behind the last one the bytes end
none_left : (version : Version) (number : ℕ) (bytes : List ℕ) → entries_left version number 0 bytes ≡ end_read number bytes
unfolding entries_left entries_read
none_left version number bytes =
    let same : number + 0 ≡ number = omega arith in
    ap (λ (n : ℕ). cond {A = Result (List Entry) TraceFault} (nat_eq (length bytes) 0) (Ok []) (Err (BadEntry n))) same

none_comes : (version : Version) (number left : ℕ) (all : Option (List ℕ)) → left ≡ 0 → IsAtEnd all
    → NoneComes (option_map (entries_left version number left) all)
none_comes version number left None none end = tt
none_comes version number left (Some bytes) none end =
    ap (λ (n : ℕ). entries_left version number n bytes) none ∙ none_left version number bytes ∙ ap (end_read number) end

end_fails : (version : Version) (number left : ℕ) (f : StreamFault) (all : Option (List ℕ)) → left ≡ 0
    → FailsOn f (option_map (end_read number) all) → FailsOn f (option_map (entries_left version number left) all)
end_fails version number left (Unread kind) all none fails = tt
end_fails version number left (Damaged d) None none fails = tt
end_fails version number left (Damaged d) (Some bytes) none fails =
    let same : end_read number bytes ≡ entries_left version number left bytes =
    sym (ap (λ (n : ℕ). entries_left version number n bytes) none ∙ none_left version number bytes) in
    subst (λ (r : Result (List Entry) TraceFault). FileFails d r) same fails

-- what is found behind the last entry
pub ends_there : (version : Version) (passed left : ℕ) (held : HeldBytes) (old : Coming) (result : Result (Unit {0}) StreamFault)
    → coming version (passed + 1) left held ≡ old → old.left ≡ 0
    → OnOk result (IsAtEnd (known held)) → OnOk result (NoneComes old.entries)
ends_there version passed left held old (Ok u) is none end =
    subst (λ (o : Coming). NoneComes o.entries) is (none_comes version (passed + 1) left (known held)
    (ap (λ (o : Coming). o.left) is ∙ none) end)
ends_there version passed left held old (Err f) is none end = tt

pub rest_ends : (version : Version) (number left : ℕ) (held : HeldBytes) (old : Coming) (result : Result (Unit {0}) StreamFault)
    → coming version number left held ≡ old → OnOk result (IsAtEnd (known held)) → OnOk result (IsAtEnd old.rest)
rest_ends version number left held old (Ok u) is end = subst (λ (o : Coming). IsAtEnd o.rest) is end
rest_ends version number left held old (Err f) is end = tt

pub goes_on_there : (version : Version) (passed number left : ℕ) (held : HeldBytes) (old : Coming) (result : Result (Unit {0}) StreamFault)
    → coming version (passed + 1) left held ≡ old → old.left ≡ 0 → number ≡ passed + 1
    → IfErr result (λ f. FailsOn f (option_map (end_read number) (known held))) → IfErr result (λ f. FailsOn f old.entries)
goes_on_there version passed number left held old (Ok u) is none follows fails = tt
goes_on_there version passed number left held old (Err f) is none follows fails =
    let here = end_fails version number left f (known held) (ap (λ (o : Coming). o.left) is ∙ none) fails in
    subst (λ (o : Coming). FailsOn f o.entries) (ap (λ (n : ℕ). coming version n left held) follows ∙ is) here

-- the entries that were read, and whether the bytes end behind them
abbrev ended : ℕ → List Entry × List ℕ → Result (List Entry) TraceFault
ended last entries = cond (nat_eq (length entries.1) 0) (Ok entries.0) (Err (BadEntry last))

abbrev added : Entry → List Entry × List ℕ → Result (List Entry × List ℕ) TraceFault
added e others = Ok (e ∷ others.0, others.1)

end_or_not : (e : Entry) (xs : List Entry) (a b : ℕ) (none : Bool) → a ≡ b
    → cond {A = Result (List Entry) TraceFault} none (Ok (e ∷ xs)) (Err (BadEntry a))
    ≡ behind_entry e (cond none (Ok xs) (Err (BadEntry b)))
end_or_not e xs a b true same = refl
end_or_not e xs a b false same = ap (λ (n : ℕ). Err (BadEntry n)) same

ended_behind : (e : Entry) (a b : ℕ) (read : Result (List Entry × List ℕ) TraceFault) → a ≡ b
    → ((read >>> added e) >>> ended a) ≡ behind_entry e (read >>> ended b)
ended_behind e a b (Err f) same = refl
ended_behind e a b (Ok others) same = end_or_not e others.0 a b (nat_eq (length others.1) 0) same

first_left : (version : Version) (number left : ℕ) (bytes : List ℕ) (e : Entry) (rest : List ℕ)
    → in_entry number (entry_read version bytes) ≡ Ok (e, rest)
    → entries_left version number (suc left) bytes ≡ behind_entry e (entries_left version (suc number) left rest)
unfolding entries_left entries_read
first_left version number left bytes e rest h =
    let same : number + suc left ≡ suc number + left = omega arith in
    rw h (ended_behind e (number + suc left) (suc number + left) (entries_read version (suc number) left rest) same)

comes_first : (version : Version) (number left : ℕ) (e : Entry) (all rest : Option (List ℕ))
    → ReadsOn (λ bytes. in_entry number (entry_read version bytes)) e all rest
    → ComesFirst e (option_map (entries_left version number (suc left)) all) (option_map (entries_left version (suc number) left) rest)
comes_first version number left e None rest reads = tt
comes_first version number left e (Some bytes) None reads = absurd reads
comes_first version number left e (Some bytes) (Some rest) reads = first_left version number left bytes e rest reads

first_comes : (version : Version) (number next left fewer : ℕ) (e : Entry) (held new : HeldBytes) → next ≡ suc number → left ≡ suc fewer
    → ReadsOn (λ bytes. in_entry number (entry_read version bytes)) e (known held) (known new) → AreBytes (known held) (known new)
    → Comes e (coming version number left held) (coming version next fewer new)
first_comes version number next left fewer e held new follows some reads bytes = record {
  fewer = some;
  bytes = bytes;
  first = rw (follows, some) (comes_first version number fewer e (known held) (known new) reads);
}

-- an entry is read as the first of those to come
pub comes_next : (version : Version) (passed left : ℕ) (e : Entry) (held new : HeldBytes) (old : Coming)
    → coming version (passed + 1) left held ≡ old → 0 < old.left
    → ReadsOn (λ bytes. in_entry (passed + 1) (entry_read version bytes)) e (known held) (known new) → AreBytes (known held) (known new)
    → Comes e old (coming version ((passed + 1) + 1) (left - 1) new)
comes_next version passed left e held new old is some reads bytes =
    let next : (passed + 1) + 1 ≡ suc (passed + 1) = omega arith in
    let fewer : left ≡ suc (left - 1) = omega (arith, some, ap (λ (o : Coming). o.left) is) in
    subst (λ (o : Coming). Comes e o (coming version ((passed + 1) + 1) (left - 1) new)) is
    (first_comes version (passed + 1) ((passed + 1) + 1) left (left - 1) e held new next fewer reads bytes)

entry_lost : (version : Version) (number left : ℕ) (d : TraceFault) (bytes : List ℕ) → in_entry number (entry_read version bytes) ≡ Err d
    → entries_left version number (suc left) bytes ≡ Err d
unfolding entries_left entries_read
entry_lost version number left d bytes h = rw h refl

first_fails : (version : Version) (number left : ℕ) (f : StreamFault) (all : Option (List ℕ))
    → FailsOn f (option_map (λ bytes. in_entry number (entry_read version bytes)) all)
    → FailsOn f (option_map (entries_left version number (suc left)) all)
first_fails version number left (Unread kind) all fails = tt
first_fails version number left (Damaged d) None fails = tt
first_fails version number left (Damaged NoMemory) (Some bytes) fails = tt
first_fails version number left (Damaged Truncated) (Some bytes) fails = entry_lost version number left Truncated bytes fails
first_fails version number left (Damaged BadMark) (Some bytes) fails = entry_lost version number left BadMark bytes fails
first_fails version number left (Damaged BadVersion) (Some bytes) fails = entry_lost version number left BadVersion bytes fails
first_fails version number left (Damaged (BadEntry k)) (Some bytes) fails = entry_lost version number left (BadEntry k) bytes fails

pub next_fails : (version : Version) (passed left : ℕ) (f : StreamFault) (held : HeldBytes) (old : Coming)
    → coming version (passed + 1) left held ≡ old → 0 < old.left
    → FailsOn f (option_map (λ bytes. in_entry (passed + 1) (entry_read version bytes)) (known held)) → FailsOn f old.entries
next_fails version passed left f held old is some fails =
    let fewer : left ≡ suc (left - 1) = omega (arith, some, ap (λ (o : Coming). o.left) is) in
    subst (λ (o : Coming). FailsOn f o.entries) is (rw fewer (first_fails version (passed + 1) (left - 1) f (known held) fails))

-- as many are read as were asked for
so_many : (version : Version) (number n : ℕ) (bytes : List ℕ) (y : List Entry × List ℕ) → entries_read version number n bytes ≡ Ok y
    → length y.0 ≡ n
unfolding entries_read
so_many version number zero bytes y e = let same : y ≡ ([], bytes) = cc in rw same refl
so_many version number (suc n) bytes y e =
    let first = step_ok (in_entry number (entry_read version bytes))
    (λ (x : Entry × List ℕ). entries_read version (suc number) n x.1 >>> added x.0) y e in
    let others = step_ok (entries_read version (suc number) n first.0.1) (added first.0.0) y first.2 in
    let same : y ≡ (first.0.0 ∷ others.0.0, others.0.1) = cc in
    rw same (ap suc (so_many version (suc number) n first.0.1 others.0 others.1))

-- as many entries are read as are left
some_many : (left last : ℕ) (read : List Entry × List ℕ) (xs : List Entry) (none : Bool) → length read.0 ≡ left
    → cond {A = Result (List Entry) TraceFault} none (Ok read.0) (Err (BadEntry last)) ≡ Ok xs → length xs ≡ left
some_many left last read xs true many e = let same : read.0 ≡ xs = cc in ap length (sym same) ∙ many
some_many left last read xs false many e = absurd cc

so_many_left : (version : Version) (number left : ℕ) (bytes : List ℕ) (xs : List Entry) → entries_left version number left bytes ≡ Ok xs
    → length xs ≡ left
unfolding entries_left
so_many_left version number left bytes xs e =
    let read = step_ok (entries_read version number left bytes) (ended (number + left)) xs e in
    some_many left (number + left) read.0 xs (nat_eq (length read.0.1) 0) (so_many version number left bytes read.0 read.1) read.2

many_or_fault : (version : Version) (number left : ℕ) (bytes : List ℕ) (read : Result (List Entry) TraceFault)
    → entries_left version number left bytes ≡ read → AreSoMany left (Some read)
many_or_fault version number left bytes (Ok xs) e = so_many_left version number left bytes xs e
many_or_fault version number left bytes (Err f) e = tt

are_so_many : (version : Version) (number left : ℕ) (all : Option (List ℕ))
    → AreSoMany left (option_map (entries_left version number left) all)
are_so_many version number left None = tt
are_so_many version number left (Some bytes) = many_or_fault version number left bytes (entries_left version number left bytes) refl

pub so_many_come : (version : Version) (number count : ℕ) (held : HeldBytes) (entries : Coming) → entries ≡ coming version number count held
    → AreSoMany count entries.entries
so_many_come version number count held entries is =
    subst (λ (c : Coming). AreSoMany count c.entries) (sym is) (are_so_many version number count (known held))

-- ---- A file is its head and the entries behind it

abbrev put_together : Version → ImageText → List Entry × List ℕ → Result (FileText × List ℕ) TraceFault
put_together version i entries = Ok (record { version = version; image = i; entries = entries.0 }, entries.1)

abbrev file_ended : FileText × List ℕ → Result FileText TraceFault
file_ended f = cond (nat_eq (length f.1) 0) (Ok f.0) (Err (BadEntry (length f.0.entries + 1)))

abbrev counted : Version → ImageText → ℕ × List ℕ → Result (FileText × List ℕ) TraceFault
counted version i count = entries_read version 1 count.0 count.1 >>> put_together version i

abbrev imaged : Version → ImageText × List ℕ → Result (FileText × List ℕ) TraceFault
imaged version i = in_entry 0 (number_at w64 i.1) >>> counted version i.0

abbrev marked : Version × List ℕ → Result (FileText × List ℕ) TraceFault
marked version = in_entry 0 (image_read version.0 version.1) >>> imaged version.0

abbrev behind_heading : HeadingText × List ℕ → Result FileText TraceFault
behind_heading h = with_entries h.0.version h.0.image (entries_left h.0.version 1 h.0.count h.1)

whole_or_not : (version : Version) (i : ImageText) (xs : List Entry) (a b : ℕ) (none : Bool) → a ≡ b
    → cond {A = Result FileText TraceFault} none (Ok (record { version = version; image = i; entries = xs })) (Err (BadEntry a))
    ≡ with_entries version i (cond none (Ok xs) (Err (BadEntry b)))
whole_or_not version i xs a b true same = refl
whole_or_not version i xs a b false same = ap (λ (n : ℕ). Err (BadEntry n)) same

entries_parts : (version : Version) (i : ImageText) (count : ℕ) (bytes : List ℕ) (read : Result (List Entry × List ℕ) TraceFault)
    → entries_read version 1 count bytes ≡ read
    → ((read >>> put_together version i) >>> file_ended) ≡ with_entries version i (read >>> ended (1 + count))
entries_parts version i count bytes (Err f) e = refl
entries_parts version i count bytes (Ok xs) e =
    let last : length xs.0 + 1 ≡ 1 + count = omega (arith, so_many version 1 count bytes xs e) in
    whole_or_not version i xs.0 (length xs.0 + 1) (1 + count) (nat_eq (length xs.1) 0) last

count_parts : (version : Version) (i : ImageText) (read : Result (ℕ × List ℕ) TraceFault)
    → ((read >>> counted version i) >>> file_ended) ≡ ((read >>> with_count version i) >>> behind_heading)
unfolding entries_left
count_parts version i (Err f) = refl
count_parts version i (Ok count) = entries_parts version i count.0 count.1 (entries_read version 1 count.0 count.1) refl

image_parts : (version : Version) (read : Result (ImageText × List ℕ) TraceFault)
    → ((read >>> imaged version) >>> file_ended) ≡ ((read >>> behind_image version) >>> behind_heading)
image_parts version (Err f) = refl
image_parts version (Ok i) = count_parts version i.0 (in_entry 0 (number_at w64 i.1))

mark_parts : (read : Result (Version × List ℕ) TraceFault)
    → ((read >>> marked) >>> file_ended) ≡ ((read >>> behind_mark) >>> behind_heading)
mark_parts (Err f) = refl
mark_parts (Ok version) = image_parts version.0 (in_entry 0 (image_read version.0 version.1))

file_parts : (bytes : List ℕ) → file_read bytes ≡ (heading_read bytes >>> behind_heading)
unfolding file_read front_read heading_read
file_parts bytes = mark_parts (mark_read bytes)

file_behind : (h : HeadingText) (bytes rest : List ℕ) → heading_read bytes ≡ Ok (h, rest)
    → file_read bytes ≡ with_entries h.version h.image (entries_left h.version 1 h.count rest)
file_behind h bytes rest e = file_parts bytes ∙ ap (λ (r : Result (HeadingText × List ℕ) TraceFault). r >>> behind_heading) e

read_as : (h : HeadingText) (all rest : Option (List ℕ)) → ReadsOn heading_read h all rest
    → IsReadAs h.version h.image all (option_map (entries_left h.version 1 h.count) rest)
read_as h None rest reads = tt
read_as h (Some bytes) None reads = absurd reads
read_as h (Some bytes) (Some rest) reads = file_behind h bytes rest reads

nothing_held : (all : Option (List ℕ)) → prepend_known [] all ≡ all
nothing_held None = refl
nothing_held (Some bytes) = refl

-- a stream of which nothing was read is read as its head, and as what comes behind
pub is_read_as : (all : Option (List ℕ)) (start new : HeldBytes) (h t : HeadingText) (entries : Coming)
    → start ≡ record { front = []; behind = all } → t ≡ h → entries ≡ coming h.version 1 h.count new
    → ReadsOn heading_read h (known start) (known new) → IsReadAs t.version t.image all entries.entries
is_read_as all start new h t entries nothing same is reads =
    let first : ReadsOn heading_read h all (known new) =
    subst (λ (a : Option (List ℕ)). ReadsOn heading_read h a (known new)) (ap known nothing ∙ nothing_held all) reads in
    subst (λ (u : HeadingText). IsReadAs u.version u.image all entries.entries) (sym same)
    (subst (λ (c : Coming). IsReadAs h.version h.image all c.entries) (sym is) (read_as h all (known new) first))

pub bytes_come : (all : Option (List ℕ)) (start new : HeldBytes) (version : Version) (number left : ℕ) (entries : Coming)
    → start ≡ record { front = []; behind = all } → entries ≡ coming version number left new
    → AreBytes (known start) (known new) → AreBytes all entries.rest
bytes_come all start new version number left entries nothing is bytes =
    let first : AreBytes all (known new) =
    subst (λ (a : Option (List ℕ)). AreBytes a (known new)) (ap known nothing ∙ nothing_held all) bytes in
    subst (λ (c : Coming). AreBytes all c.rest) (sym is) first

heading_lost : (d : TraceFault) (bytes : List ℕ) → heading_read bytes ≡ Err d → file_read bytes ≡ Err d
heading_lost d bytes e = file_parts bytes ∙ ap (λ (r : Result (HeadingText × List ℕ) TraceFault). r >>> behind_heading) e

file_fails : (f : StreamFault) (all : Option (List ℕ)) → FailsOn f (option_map heading_read all) → FailsOn f (option_map file_read all)
file_fails (Unread kind) all fails = tt
file_fails (Damaged d) None fails = tt
file_fails (Damaged NoMemory) (Some bytes) fails = tt
file_fails (Damaged Truncated) (Some bytes) fails = heading_lost Truncated bytes fails
file_fails (Damaged BadMark) (Some bytes) fails = heading_lost BadMark bytes fails
file_fails (Damaged BadVersion) (Some bytes) fails = heading_lost BadVersion bytes fails
file_fails (Damaged (BadEntry k)) (Some bytes) fails = heading_lost (BadEntry k) bytes fails

pub stream_fails : (all : Option (List ℕ)) (start : HeldBytes) (f : StreamFault) → start ≡ record { front = []; behind = all }
    → FailsOn f (option_map heading_read (known start)) → FailsOn f (option_map file_read all)
stream_fails all start f nothing fails =
    file_fails f all (subst (λ (a : Option (List ℕ)). FailsOn f (option_map heading_read a)) (ap known nothing ∙ nothing_held all) fails)

-- ---- What is known of a stream whose head was read

spelled_with : (version : Version) (base : ℕ) (m : Machine) (strays : List Placed) (bytes : List ℕ) (read : Result (List Entry) TraceFault)
    (entries : List Entry) → HasShape (whole_image base m strays)
    → file_read bytes ≡ with_entries version (image_text (whole_image base m strays)) read → IsBytes bytes → read ≡ Ok entries
    → HasSpelling (history version base m strays entries) × (bytes ≡ spelled_file (file_text (history version base m strays entries)))
spelled_with version base m strays bytes read entries shape e fits come =
    let whole : file_read bytes ≡ Ok (file_text (history version base m strays entries)) = e
    ∙ ap (with_entries version (image_text (whole_image base m strays))) come in
    let t = file_takes bytes (file_text (history version base m strays entries)) fits whole in
    (record { text = t.0; shape = shape }, t.1)

pub spells : (version : Version) (base : ℕ) (m : Machine) (strays : List Placed) (all : Option (List ℕ))
    (coming : Option (Result (List Entry) TraceFault)) → HasShape (whole_image base m strays)
    → IsReadAs version (image_text (whole_image base m strays)) all coming → SpellsWhatComes (history version base m strays) all coming
spells version base m strays None coming shape reads = tt
spells version base m strays (Some bytes) None shape reads = absurd reads
spells version base m strays (Some bytes) (Some read) shape reads =
    λ entries fits come. spelled_with version base m strays bytes read entries shape reads fits come

lost_with : (version : Version) (i : ImageText) (d : TraceFault) (bytes : List ℕ) (read : Result (List Entry) TraceFault)
    → file_read bytes ≡ with_entries version i read → read ≡ Err d → file_read bytes ≡ Err d
lost_with version i d bytes read reads e = reads ∙ ap (with_entries version i) e

pub fails_with : (version : Version) (i : ImageText) (all : Option (List ℕ)) (coming : Option (Result (List Entry) TraceFault))
    → IsReadAs version i all coming
    → (f : StreamFault) → FailsOn f coming → FailsOn f (option_map file_read all)
fails_with version i all coming reads (Unread kind) fails = tt
fails_with version i None coming reads (Damaged d) fails = tt
fails_with version i (Some bytes) None reads (Damaged d) fails = absurd reads
fails_with version i (Some bytes) (Some read) reads (Damaged NoMemory) fails = tt
fails_with version i (Some bytes) (Some read) reads (Damaged Truncated) fails = lost_with version i Truncated bytes read reads fails
fails_with version i (Some bytes) (Some read) reads (Damaged BadMark) fails = lost_with version i BadMark bytes read reads fails
fails_with version i (Some bytes) (Some read) reads (Damaged BadVersion) fails = lost_with version i BadVersion bytes read reads fails
fails_with version i (Some bytes) (Some read) reads (Damaged (BadEntry k)) fails = lost_with version i (BadEntry k) bytes read reads fails
