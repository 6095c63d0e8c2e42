use Rattle.jlr_plain_asks.proofs.Steps.{pushed_more}
use Rattle.jlr_plain_asks.proofs.changes.lists.push_each.Goals as goal

pub loop-item-preserved : goal.loop-item-preserved
loop-item-preserved g c = pushed_more c.args.items.now c.loop-item.item-index c.item-item.result c.args.out.now.items c.loop-item.out.items
    c.push.new.self.items c.loop-item-test.true c.item-item.is c.loop-item.invariant c.in_ok-push.ensures.items
