-- What writing a trace file asks of its sections: that their lists are short enough for their counts.
use Rattle.std.specs.List.{AllByRecursion}
use Rattle.jlr_trace_entries.specs.Entries.{EntryCounts}
use Rattle.jlr_trace_entries.specs.Writing.{ImageCounts}
use Rattle.jlr_trace.specs.declared.file.TraceFile.{TraceFile}

pub record FileCounts (f : TraceFile) : Type 0 where
  pub image : ImageCounts f.image f.strays
  pub entries : AllByRecursion (EntryCounts f.version) f.entries
