use Rattle.std.proofs.Common.{◌≡◌, ◌++◌, take}
use Rattle.std.specs.List.{flat_map}
use Rattle.jlr_trace_fields.specs.Records.{spelled_held}
use Rattle.jlr_trace_entries.specs.Images.{listed_from, handle_held}
use Rattle.jlr_trace_entries.proofs.writing.put_held.Given as goal

abbrev pub invariant-loop-number : goal.invariant-loop-number
invariant-loop-number l = l.out.items ≡ l.fn.out.items ++ flat_map spelled_held (listed_from handle_held 0 (take l.number l.handles))
