use Rattle.std.proofs.Common.{◌≡◌, ◌-◌, length}
use Rattle.jlr_trace_fields.specs.Items.{items_at}
use Rattle.jlr_trace_fields.proofs.Loop.{with_front}
use Rattle.jlr_trace_entries.specs.Asks.{kind_read}
use Rattle.jlr_trace_entries.proofs.asks.layout.kinds_at.Given as goal

abbrev pub invariant-loop : goal.invariant-loop
invariant-loop l = record {
  read : with_front l.layout (items_at kind_read (l.count - l.counter) l.bytes.now) ≡ items_at kind_read l.count l.fn.bytes.now;
  full : length l.layout ≡ l.counter;
}
