use Rattle.std.proofs.Common.{refl, arith}
use Rattle.jlr_trace_entries.proofs.Placing.{held_step, held_end}
use Rattle.jlr_trace_entries.proofs.places.held_places.Goals as goal

pub loop-item-init : goal.loop-item-init
loop-item-init c = record {
  listed = rw c.new-places.ensures.items refl;
  rises = rw c.new-places.ensures.items c.requires;
  high = rw c.new-places.ensures.items refl;
  within = rw c.new-places.ensures.items (omega arith);
}

pub loop-item-preserved : goal.loop-item-preserved
loop-item-preserved c =
    held_step c.args.items.now c.loop-item.item-index c.item-item.result c.loop-item.places.items c.pad.new.places.items
    c.push.new.self.items c.loop-item-test.true c.item-item.is (omega arith) c.loop-item.invariant
    (rw (← c.number.ensures) c.in_ok-pad.ensures) c.in_ok-push.ensures.items

pub returns-clause-listed : goal.returns-clause-listed
returns-clause-listed c = held_end c.args.items.now c.loop-item.item-index _ c.loop-item.places.items c.pad-2.new.places.items
    c.loop-item-test.false c.loop-item.invariant c.in_ok-pad-2.ensures
