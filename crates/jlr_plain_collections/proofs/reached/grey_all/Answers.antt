use Rattle.std.proofs.Common.{◌<◌, sym, subst}
use Rattle.jlr_plain_collections.proofs.Marking.{at_in, greyed_more}
use Rattle.jlr_plain_collections.proofs.reached.grey_all.Goals as goal

pub grey-requires : goal.grey-requires
grey-requires c = subst (λ n. c.slot-item.result < n) (sym c.loop-slot.invariant.long)
    (c.requires c.slot-item.result (at_in c.args.slots.now c.loop-slot.slot-index c.slot-item.result c.loop-slot-test.true c.slot-item.is))

pub loop-slot-preserved : goal.loop-slot-preserved
loop-slot-preserved c =
    greyed_more c.args.slots.now c.loop-slot.slot-index c.slot-item.result c.loop-slot-test.true c.slot-item.is c.args.marks.now
    c.args.todo.now.items c.loop-slot.marks c.loop-slot.todo.items c.grey.new.marks c.grey.new.todo.items c.loop-slot.invariant
    c.in_ok-grey.ensures
