use Rattle.std.proofs.Common.{◌≡◌, ◌-◌, suc}
use Rattle.jlr_trace.specs.Files.{entries_read}
use Rattle.jlr_trace.proofs.EntriesLoop.{with_entries}
use Rattle.jlr_trace.proofs.file.entries_at.Given as goal

abbrev pub invariant-loop-number : goal.invariant-loop-number
invariant-loop-number l = with_entries l.entries.items (entries_read l.version (suc l.number) (l.count - l.number) l.bytes.now) ≡
    entries_read l.version 1 l.count l.fn.bytes.now
