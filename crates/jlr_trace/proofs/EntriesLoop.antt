-- Reading entries one after the other, as a loop does.
use Rattle.std.proofs.Common.{◌≡◌, ℕ, suc, ◌-◌, ◌+◌, ◌≤◌, ◌<◌, List, [], ◌∷◌, ◌++◌, Result, Ok, Err, refl, sym, ap, ◌∙◌, append_assoc}
use Rattle.std.proofs.Common.{arith}
use Rattle.std.proofs.lemmas.List.{append-nil}
use Rattle.jlr_machine.specs.declared.entry.Entry.{Entry}
use Rattle.jlr_trace_fields.specs.declared.fault.Fault.TheVariants.{Short, Range}
use Rattle.jlr_trace_fields.specs.declared.fault.ReadError.{ReadError}
use Rattle.jlr_trace_fields.specs.declared.fault.ReadError.TheVariants as errors
use Rattle.jlr_trace_fields.specs.declared.version.Version.{Version}
use Rattle.jlr_trace_fields.specs.Reading.{Fails}
use Rattle.jlr_trace.specs.declared.file.TraceFault.{TraceFault}
use Rattle.jlr_trace_entries.specs.Entries.{entry_read}
use Rattle.jlr_trace.specs.Files.{◌>>>◌, entries_read, told, FileFails}

-- what was read before, and what is still read
abbrev pub with_entries : List Entry → Result (List Entry × List ℕ) TraceFault → Result (List Entry × List ℕ) TraceFault
with_entries front read = read >>> λ x. Ok (front ++ x.0, x.1)

regroup : (front : List Entry) (x : Entry) (read : Result (List Entry × List ℕ) TraceFault)
    → with_entries front (read >>> λ y. Ok (x ∷ y.0, y.1)) ≡ with_entries (front ++ x ∷ []) read
regroup front x (Ok y) = ap (λ (xs : List Entry). Ok (xs, y.1)) (simp append_assoc)
regroup front x (Err f) = refl

pub goes_on : (version : Version) (front : List Entry) (count i : ℕ) (bytes : List ℕ) (x : Entry) (after : List ℕ)
    (total : Result (List Entry × List ℕ) TraceFault) → i < count → entry_read version bytes ≡ Ok (x, after)
    → with_entries front (entries_read version (suc i) (count - i) bytes) ≡ total
    → with_entries (front ++ x ∷ []) (entries_read version (suc (i + 1)) (count - (i + 1)) after) ≡ total
unfolding entries_read
goes_on version front count i bytes x after total lt h so_far =
    let k : count - i ≡ suc (count - (i + 1)) = omega arith in
    let n : suc (i + 1) ≡ suc (suc i) = omega arith in
    let one : with_entries front (entries_read version (suc i) (count - i) bytes)
    ≡ with_entries (front ++ x ∷ []) (entries_read version (suc (suc i)) (count - (i + 1)) after) =
    rw (k, h) (regroup front x (entries_read version (suc (suc i)) (count - (i + 1)) after)) in
    ap (λ m. with_entries (front ++ x ∷ []) (entries_read version m (count - (i + 1)) after)) n ∙ sym one ∙ so_far

pub ends : (version : Version) (e : ReadError) (front : List Entry) (count i : ℕ) (bytes : List ℕ)
    (total : Result (List Entry × List ℕ) TraceFault) → i < count → Fails e (entry_read version bytes)
    → with_entries front (entries_read version (suc i) (count - i) bytes) ≡ total → FileFails (told (i + 1) e) total
unfolding entries_read
ends version errors.Memory front count i bytes total lt h so_far = tt
ends version (errors.Fault Short) front count i bytes total lt h so_far =
    let k : count - i ≡ suc (count - (i + 1)) = omega arith in
    sym so_far ∙ rw (k, h) refl
ends version (errors.Fault Range) front count i bytes total lt h so_far =
    let k : count - i ≡ suc (count - (i + 1)) = omega arith in
    let n : suc i ≡ i + 1 = omega arith in
    sym so_far ∙ rw (k, h, n) refl

pub is_done : (version : Version) (front : List Entry) (count i : ℕ) (bytes : List ℕ) (total : Result (List Entry × List ℕ) TraceFault)
    → count ≤ i → with_entries front (entries_read version (suc i) (count - i) bytes) ≡ total → total ≡ Ok (front, bytes)
unfolding entries_read
is_done version front count i bytes total le so_far =
    let k : count - i ≡ 0 = omega arith in
    let one : with_entries front (entries_read version (suc i) (count - i) bytes) ≡ Ok (front, bytes) =
    rw k (ap (λ (xs : List Entry). Ok (xs, bytes)) (append-nil front)) in
    sym so_far ∙ one
