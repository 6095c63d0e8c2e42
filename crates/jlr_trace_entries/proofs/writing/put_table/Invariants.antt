use Rattle.std.proofs.Common.{◌≡◌, ◌++◌, take}
use Rattle.std.specs.List.{flat_map}
use Rattle.jlr_trace_fields.specs.Records.{spelled_placed}
use Rattle.jlr_trace_entries.specs.Images.{listed_from, placed}
use Rattle.jlr_trace_entries.proofs.writing.put_table.Given as goal

abbrev pub invariant-loop-number : goal.invariant-loop-number
invariant-loop-number l = l.out.items ≡ l.fn.out.items ++ flat_map spelled_placed (listed_from placed 0 (take l.number l.table))
