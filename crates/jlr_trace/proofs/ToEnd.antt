-- A file is read whole where its entries are read to the end of the bytes.
use Rattle.std.proofs.Common.{◌≡◌, ◌∙◌, ◌+◌, ℕ, Bool, true, false, List, length, ap, refl}
use Rattle.std.specs.Prelude.{◌==◌, Result, Ok, Err, if◌then◌else◌}
use Rattle.std.specs.Int.{w64}
use Rattle.jlr_machine.specs.declared.entry.Entry.{Entry}
use Rattle.jlr_trace_fields.specs.Reading.{number_at}
use Rattle.jlr_trace_fields.specs.declared.version.Version.{Version}
use Rattle.jlr_trace.specs.declared.file.TraceFault.{TraceFault}
use Rattle.jlr_trace.specs.declared.file.TraceFault.TheVariants.{BadEntry, BadMark, BadVersion, NoMemory, Truncated}
use Rattle.jlr_trace_entries.specs.Images.{ImageText, image_read}
use Rattle.jlr_trace.specs.Files.{FileFails, FileText, entries_read, file_read, front_read, in_entry, mark_read, ◌>>>◌}
use Rattle.jlr_trace.specs.ToEnd.{entries_to_end}

abbrev put_together : Version → ImageText → List Entry × List ℕ → Result (FileText × List ℕ) TraceFault
put_together v image es = Ok (record { version = v; image = image; entries = es.0 }, es.1)

abbrev pub file_with : Version → ImageText → List Entry → Result FileText TraceFault
file_with v image es = Ok (record { version = v; image = image; entries = es })

abbrev file_ended : FileText × List ℕ → Result FileText TraceFault
file_ended f = if length f.1 == 0 then Ok f.0 else Err (BadEntry (length f.0.entries + 1))

abbrev entries_ended : List Entry × List ℕ → Result (List Entry) TraceFault
entries_ended es = if length es.1 == 0 then Ok es.0 else Err (BadEntry (length es.0 + 1))

abbrev entries_counted : Version → ℕ × List ℕ → Result (List Entry × List ℕ) TraceFault
entries_counted v count = entries_read v 1 count.0 count.1

-- a file at the front, from behind its image on, and from behind its mark on
abbrev behind_its_image : Version → ImageText × List ℕ → Result (FileText × List ℕ) TraceFault
behind_its_image v i = in_entry 0 (number_at w64 i.1) >>> λ count. entries_counted v count >>> put_together v i.0

abbrev behind_its_mark : Version × List ℕ → Result (FileText × List ℕ) TraceFault
behind_its_mark version = in_entry 0 (image_read version.0 version.1) >>> behind_its_image version.0

module _ (v : Version) (image : ImageText) where
  after_end : (es : List Entry × List ℕ) (b : Bool) →
      ◌≡◌ {A = Result FileText TraceFault} (if b then Ok (record { version = v; image = image; entries = es.0 }) else Err
      (BadEntry (length es.0 + 1)))
      (◌>>>◌ {A = List Entry} (if b then Ok es.0 else Err (BadEntry (length es.0 + 1))) (file_with v image))
  after_end es true = refl
  after_end es false = refl

  -- the end of the bytes is looked for before or after the file is put together
  after_entries : (r : Result (List Entry × List ℕ) TraceFault) →
      ((r >>> put_together v image) >>> file_ended) ≡ ((r >>> entries_ended) >>> file_with v image)
  after_entries (Err e) = refl
  after_entries (Ok es) = after_end es (length es.1 == 0)

  after_count : (r : Result (ℕ × List ℕ) TraceFault) →
      ((r >>> λ count. entries_counted v count >>> put_together v image) >>> file_ended)
      ≡ ((r >>> λ count. entries_counted v count >>> entries_ended) >>> file_with v image)
  after_count (Err e) = refl
  after_count (Ok count) = after_entries (entries_counted v count)

module _ (bytes : List ℕ) (v : Version) (rest behind : List ℕ) (image : ImageText)
    (marked : mark_read bytes ≡ Ok (v, rest)) (imaged : in_entry 0 (image_read v rest) ≡ Ok (image, behind)) where
  -- behind a mark and an image, a file is what its entries to the end make of it
  pub behind_image : file_read bytes ≡ (entries_to_end v behind >>> file_with v image)
  unfolding file_read front_read entries_to_end
  behind_image =
      ap (λ m. (m >>> behind_its_mark) >>> file_ended) marked
      ∙ ap (λ i. (i >>> behind_its_image v) >>> file_ended) imaged
      ∙ after_count v image (in_entry 0 (number_at w64 behind))

  -- its fault is that of its entries
  fails : (fault : TraceFault) → entries_to_end v behind ≡ Err fault → file_read bytes ≡ Err fault
  fails fault h = behind_image ∙ ap (λ r. r >>> file_with v image) h

  pub fault_behind : (fault : TraceFault) → FileFails fault (entries_to_end v behind) → FileFails fault (file_read bytes)
  fault_behind NoMemory h = h
  fault_behind Truncated h = fails Truncated h
  fault_behind BadMark h = fails BadMark h
  fault_behind BadVersion h = fails BadVersion h
  fault_behind (BadEntry k) h = fails (BadEntry k) h
