use Rattle.std.proofs.Common.{◌≡◌, ◌++◌, take}
use Rattle.std.specs.List.{flat_map}
use Rattle.jlr_trace_entries.specs.Asks.{spelled_kind}
use Rattle.jlr_trace_entries.proofs.asks.layout.put_kinds.Given as goal

abbrev pub invariant-loop-field : goal.invariant-loop-field
invariant-loop-field l = l.out.items ≡ l.fn.out.items ++ flat_map spelled_kind (take l.field l.layout)
