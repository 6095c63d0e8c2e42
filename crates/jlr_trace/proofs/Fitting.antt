-- A history whose image is one and whose entries are a run from it has a spelling.
use Rattle.std.proofs.Common.{◌<◌, ◌^◌, ℕ, List, length}
use Rattle.std.specs.List.{AllByRecursion}
use Rattle.jlr_machine.specs.declared.machine.Machine.{Machine}
use Rattle.jlr_machine.specs.declared.entry.Entry.{Entry}
use Rattle.jlr_machine.specs.Run.{Run}
use Rattle.jlr_machine.specs.WellFormed.{IsImage}
use Rattle.jlr_trace.specs.Files.{HasSpelling, history_of}
use Rattle.jlr_trace.specs.Ranges.{LimitsInRange, MachineRange, EntryRange}
use Rattle.jlr_trace.proofs.Machines.{image_fits, image_shape}
use Rattle.jlr_trace.proofs.Entries.{entries_fit}

pub has_spelling : (base : ℕ) (m n : Machine) (entries : List Entry) → base < 2 ^ 64 → length entries < 2 ^ 64 → IsImage m → LimitsInRange m
    → Run m entries n → MachineRange m → AllByRecursion EntryRange entries
    → HasSpelling (history_of base m entries)
has_spelling base m n entries bound count i limits run range each = record {
  text = record {
    image =
        image_fits m i.well_formed base entries bound limits range;
    count = count;
    entries = entries_fit m n entries i.well_formed run each;
  };
  shape = image_shape m i.well_formed base entries bound limits range i.no_cycle;
}
