use Rattle.std.proofs.Common.{◌≡◌, ◌-◌, ◌<◌, ◌≤◌, ◌++◌, length, None}
use Rattle.std.specs.List.{AllByRecursion}
use Rattle.jlr_trace_fields.specs.Items.{rising_items_at}
use Rattle.jlr_trace_fields.proofs.Loop.{with_front}
use Rattle.jlr_trace_fields.specs.Records.{placed_after}
use Rattle.jlr_trace_entries.specs.Images.{listed_from, placed}
use Rattle.jlr_trace_entries.proofs.Placing.{next_of}
use Rattle.jlr_trace_entries.proofs.places.placed_at.Given as goal

abbrev pub invariant-loop : goal.invariant-loop
invariant-loop l = record {
  read : with_front (listed_from placed 0 l.places.items ++ l.strays.items)
      (rising_items_at (placed_after l.version) (λ p. p.slot) (l.count - l.counter) l.before l.bytes.now)
      ≡ rising_items_at (placed_after l.version) (λ p. p.slot) l.count None l.fn.bytes.now;
  below : length l.places.items ≤ next_of l.before;
  few : length l.places.items ≤ l.cells;
  apart : 0 < length l.strays.items → l.cells < next_of l.before;
  strays : AllByRecursion (λ p. l.cells ≤ p.slot) l.strays.items;
}
