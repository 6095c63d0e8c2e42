-- A file that has a spelling has lists that are short enough for their counts.
use Rattle.std.proofs.Common.{List, [], ◌∷◌}
use Rattle.std.specs.List.{AllByRecursion}
use Rattle.jlr_machine.specs.declared.entry.Entry.{Entry}
use Rattle.jlr_trace_fields.specs.declared.version.Version.{Version}
use Rattle.jlr_trace_entries.specs.Entries.{EntryFits, EntryCounts}
use Rattle.jlr_trace_entries.proofs.SectionCounts.{image_counts, entry_counts}
use Rattle.jlr_trace.specs.declared.file.TraceFile.{TraceFile}
use Rattle.jlr_trace.specs.Files.{image_of, HasSpelling}
use Rattle.jlr_trace.specs.Writing.{FileCounts}

entries_count : (version : Version) (xs : List Entry) → AllByRecursion (EntryFits version) xs → AllByRecursion (EntryCounts version) xs
entries_count version [] all = tt
entries_count version (x ∷ xs) all = (entry_counts version x all.0, entries_count version xs all.1)

pub counts_of_spelling : (f : TraceFile) → HasSpelling f → FileCounts f
counts_of_spelling f has = record {
  image = image_counts f.version (image_of f) has.text.image has.shape;
  entries = entries_count f.version f.entries has.text.entries;
}
