use Rattle.std.proofs.Common.{◌≡◌, ◌-◌}
use Rattle.jlr_trace_fields.specs.Items.{items_at}
use Rattle.jlr_trace_fields.proofs.Loop.{with_front}
use Rattle.jlr_trace_fields.proofs.parts.items.take_items.Given as goal

abbrev pub invariant-loop : goal.invariant-loop
invariant-loop g l = with_front l.items.items (items_at g.T.Item.read_at (l.count - l.counter) l.bytes.now) ≡ items_at g.T.Item.read_at
    l.count l.fn.bytes.now
