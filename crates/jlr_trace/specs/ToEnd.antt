-- What is read behind an image, for functions of this crate alone: `file_read` says it of a whole file.
use Rattle.std.specs.Prelude.{◌==◌, ◌+◌, ℕ, List, length, Result, Ok, Err, if◌then◌else◌}
use Rattle.std.specs.Int.{w64}
use Rattle.jlr_machine.specs.declared.entry.Entry.{Entry}
use Rattle.jlr_trace_fields.specs.declared.version.Version.{Version}
use Rattle.jlr_trace_fields.specs.Reading.{number_at}
use Rattle.jlr_trace.specs.declared.file.TraceFault.{TraceFault}
use Rattle.jlr_trace.specs.declared.file.TraceFault.TheVariants.{BadEntry}
use Rattle.jlr_trace.specs.Files.{entries_read, in_entry, ◌>>>◌}

-- the count of the entries and so many of them, up to the end of the bytes; what stands behind them is a fault behind
-- the last entry
unfoldable pub entries_to_end : Version → List ℕ → Result (List Entry) TraceFault
entries_to_end version bytes =
    in_entry 0 (number_at w64 bytes) >>> λ count. entries_read version 1 count.0 count.1
    >>> λ entries. if length entries.1 == 0 then Ok entries.0 else Err (BadEntry (length entries.0 + 1))
