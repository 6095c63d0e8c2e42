use Rattle.std.proofs.Common.{◌≡◌, ◌-◌, None}
use Rattle.jlr_trace_fields.proofs.Loop.{with_front}
use Rattle.jlr_trace_fields.specs.Items.{rising_items_at}
use Rattle.jlr_trace_fields.proofs.parts.rising.take_rising_items.Given as goal

abbrev pub invariant-loop : goal.invariant-loop
invariant-loop g l = with_front l.items.items (rising_items_at g.T.Keyed.read_after g.T.Keyed.key_of (l.count - l.counter) l.before
    l.bytes.now) ≡ rising_items_at g.T.Keyed.read_after g.T.Keyed.key_of l.count None l.fn.bytes.now
