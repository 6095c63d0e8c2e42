-- The bytes of records, one entry after the other, and the file that they end.
use Rattle.std.proofs.Common.{◌≡◌, ℕ, ◌+◌, ◌<◌, ◌≤◌, ◌^◌, List, [], ◌∷◌, ◌++◌, length, drop, slice_index_or, refl, sym, ◌∙◌, ap, subst}
use Rattle.std.proofs.Common.{append_assoc}
use Rattle.std.specs.List.{flat_map, AllByRecursion}
use Rattle.std.proofs.Math.ListN.{drop_of_length-le}
use Rattle.std.proofs.lemmas.Grind.{flat_map-append}
use Rattle.std.proofs.lemmas.List.{append-nil}
use Rattle.std.proofs.lemmas.List.Concat.{flat_map-cons}
use Rattle.jlr_machine.specs.declared.machine.Machine.{Machine}
use Rattle.jlr_machine.specs.declared.entry.Entry.{Entry}
use Rattle.jlr_machine.specs.Run.{Run, apply}
use Rattle.jlr_machine.specs.WellFormed.{IsImage}
use Rattle.jlr_plain.specs.declared.record.Record.{Record}
use Rattle.jlr_plain.specs.Records.{entry_in, replayed}
use Rattle.jlr_plain.specs.Unseen.{unseen}
use Rattle.jlr_plain.proofs.Records.{as_many, same_replayed}
use Rattle.jlr_trace_fields.specs.declared.version.Version.TheVariants.{Two}
use Rattle.jlr_trace_entries.specs.Entries.{spelled_entry}
use Rattle.jlr_trace_entries.specs.Images.{image_text, whole_image}
use Rattle.jlr_trace.specs.declared.file.TraceFile.{TraceFile}
use Rattle.jlr_trace.specs.Files.{HasSpelling, file_text, history_of, spelled_file, spelled_front}
use Rattle.jlr_trace.specs.Ranges.{EntryRange, LimitsInRange, MachineRange}
use Rattle.jlr_trace.proofs.Fitting.{has_spelling}
use Rattle.jlr_book.specs.Histories.{History, IsHistory}
use Rattle.jlr_book.specs.Led.{LeadsOn}
use Rattle.jlr_book.proofs.Led.{leads_past, rest_is}
use Rattle.jlr_commands.specs.Saving.{IsSaved, file_of}
use Rattle.jlr_commands.proofs.Limits.{are_limits}

-- the records before a place are written, and those behind it lead on
pub record IsWritten (start now : Machine) (records : List Record) (place : ℕ) (old new : List ℕ) : Type 0 where
  pub leads : LeadsOn now (drop place records)
  pub done : List Entry
  pub rest : done ++ replayed now (drop place records) ≡ replayed start records
  pub bytes : new ≡ old ++ flat_map (spelled_entry Two) done
  pub range : AllByRecursion EntryRange done

pub begins : (start : Machine) (records : List Record) (old : List ℕ) → LeadsOn start records → IsWritten start start records 0 old old
begins start records old leads =
    record { leads = leads; done = []; rest = refl; bytes = sym (append-nil old); range = tt }

all_more : (P : Entry → Type 0) (xs : List Entry) (x : Entry) → AllByRecursion P xs → P x → AllByRecursion P (xs ++ x ∷ [])
all_more P [] x all h = (h, tt)
all_more P (y ∷ xs) x all h = (all.0, all_more P xs x all.1 h)

spelled_more : (xs : List Entry) (x : Entry)
    → flat_map (spelled_entry Two) (xs ++ x ∷ []) ≡ flat_map (spelled_entry Two) xs ++ spelled_entry Two x
spelled_more xs x =
    let spelled : Entry → List ℕ = spelled_entry Two in
    flat_map-append spelled xs (x ∷ [])
    ∙ ap (λ (t : List ℕ). flat_map spelled xs ++ t) (flat_map-cons spelled x [] ∙ append-nil (spelled x))

pub goes_on : (start n n' : Machine) (records : List Record) (i : ℕ) (r : Record) (old new new' : List ℕ)
    → i < length records → r ≡ slice_index_or records i r → IsWritten start n records i old new
    → new' ≡ new ++ spelled_entry Two (entry_in n r) → EntryRange (entry_in n r) → n' ≡ unseen (apply n (entry_in n r))
    → IsWritten start n' records (i + 1) old new'
goes_on start n n' records i r old new new' lt is w bytes range to =
    let e = entry_in n r in
    let behind = drop (i + 1) records in
    let next : replayed n' behind ≡ replayed (apply n e) behind =
    same_replayed n' (apply n e) behind (ap {A = Machine} {B = Machine} unseen to) in
    let front : List ℕ = flat_map (spelled_entry Two) w.done in
    record {
      leads = leads_past n n' records i r lt is w.leads to;
      done = w.done ++ e ∷ [];
      rest = append_assoc w.done (e ∷ []) (replayed n' behind)
          ∙ ap (λ (t : List Entry). w.done ++ e ∷ t) next
          ∙ ap (λ (t : List Record). w.done ++ replayed n t) (sym (rest_is records i r lt is))
          ∙ w.rest;
      bytes = bytes ∙ ap (λ (t : List ℕ). t ++ spelled_entry Two e) w.bytes ∙ append_assoc old front (spelled_entry Two e)
          ∙ ap (λ (t : List ℕ). old ++ t) (sym (spelled_more w.done e));
      range = all_more EntryRange w.done e w.range range;
    }

module _ (start n : Machine) (records : List Record) (i : ℕ) (old new : List ℕ) (past : length records ≤ i)
    (w : IsWritten start n records i old new) where
  all_done : w.done ≡ replayed start records
  all_done = sym (append-nil w.done)
      ∙ ap (λ (t : List Record). w.done ++ replayed n t) (sym (drop_of_length-le records past)) ∙ w.rest

  pub all_bytes : new ≡ old ++ flat_map (spelled_entry Two) (replayed start records)
  all_bytes = w.bytes ∙ ap (λ (t : List Entry). old ++ flat_map (spelled_entry Two) t) all_done

  pub all_range : AllByRecursion EntryRange (replayed start records)
  all_range = subst (AllByRecursion EntryRange) all_done w.range

-- ---- The file

-- the records of a history lead on from its image
pub from_image : {R : Type 0} (h : History R) (image : Machine) (records : List Record) → IsHistory h → image ≡ h.image
    → replayed h.image records ≡ h.entries → LeadsOn image records
from_image h image records is image_is told =
    let none : h.image.seen ≡ [] = is.image.well_formed.seen_in_cycle is.image.no_cycle in
    let run : Run h.image (replayed h.image records) is.ends.0 =
    subst (λ (es : List Entry). Run h.image es is.ends.0) (sym told) is.ends.1 in
    record {
      machine = h.image;
      same = image_is ∙ ap {A = List ℕ} {B = Machine} (λ l. record h.image { seen = l }) none;
      formed = is.image.well_formed;
      last = is.ends.0;
      run = run;
    }

pub saved : {R : Type 0} (h : History R) (image : Machine) (base count : ℕ) (records : List Record) (front out : List ℕ)
    → IsHistory h → image ≡ h.image → base ≡ h.base → base < 2 ^ 64 → replayed h.image records ≡ h.entries
    → count ≡ length records → count < 2 ^ 64
    → front ≡ spelled_front Two (image_text (whole_image base image [])) count → MachineRange image
    → out ≡ front ++ flat_map (spelled_entry Two) (replayed image records) → AllByRecursion EntryRange (replayed image records)
    → IsSaved h out
saved h image base count records front out is image_is base_is bound told counted few begun range written each =
    let entries = replayed image records in
    let e = is.ends in
    let entries_are : entries ≡ h.entries = ap (λ (m : Machine). replayed m records) image_is ∙ told in
    let f = history_of base image entries in
    let same : f ≡ file_of h = λ i. history_of (base_is i) (image_is i) (entries_are i) in
    let many : count ≡ length entries = counted ∙ sym (as_many image records) in
    let run : Run image entries e.0 = subst (λ (m : Machine). Run m entries e.0) (sym image_is)
    (subst (λ (es : List Entry). Run h.image es e.0) (sym entries_are) e.1) in
    let text = image_text (whole_image base image []) in
    record {
      spelling = subst HasSpelling same
          (has_spelling base image e.0 entries bound (subst (λ n. n < 2 ^ 64) many few) (subst IsImage (sym image_is) is.image)
          (subst LimitsInRange (sym image_is) (are_limits h.limits h.image is.limits_are)) run range each);
      spelled = written
          ∙ ap (λ (t : List ℕ). t ++ flat_map (spelled_entry Two) entries)
          (begun ∙ ap (λ (n : ℕ). spelled_front Two text n) many)
          ∙ ap (λ (x : TraceFile). spelled_file (file_text x)) same;
      legal = (is.image, (e.0, e.1));
    }
