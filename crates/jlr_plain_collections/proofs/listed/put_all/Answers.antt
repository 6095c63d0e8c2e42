use Rattle.jlr_plain_collections.proofs.Tables.{table_more}
use Rattle.jlr_plain_collections.proofs.listed.put_all.Goals as goal

pub loop-slot-preserved : goal.loop-slot-preserved
loop-slot-preserved c = table_more c.args.slots.now c.loop-slot.slot-index c.slot-item.result c.loop-slot.marks c.put.new.marks
    c.loop-slot-test.true c.slot-item.is c.loop-slot.invariant c.put.ensures
