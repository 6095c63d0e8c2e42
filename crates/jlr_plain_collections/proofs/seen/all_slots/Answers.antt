use Rattle.jlr_plain_collections.proofs.Slots.{slot_pushed}
use Rattle.jlr_plain_collections.proofs.seen.all_slots.Goals as goal

pub loop-i-preserved : goal.loop-i-preserved
loop-i-preserved c = slot_pushed c.loop-i.i c.loop-i.out.items c.push_slot.new.out.items c.loop-i.invariant c.in_ok-push_slot.ensures
