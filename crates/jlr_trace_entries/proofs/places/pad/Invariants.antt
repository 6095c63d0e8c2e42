use Rattle.std.proofs.Common.{◌≡◌, ◌++◌, ◌-◌, ◌≤◌, length, max, None}
use Rattle.std.specs.Prelude.{replicate}
use Rattle.jlr_trace_entries.proofs.places.pad.Given as goal

abbrev pub invariant-loop : goal.invariant-loop
invariant-loop g l = record {
  items : l.places.items ≡ l.fn.places.items ++ replicate (l.counter - length l.fn.places.items) None;
  bound : l.counter ≤ max (length l.fn.places.items) l.upto;
}
