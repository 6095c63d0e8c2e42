use Rattle.jlr_plain_collections.proofs.Slow.{cleanables_more}
use Rattle.jlr_plain_collections.proofs.roots.push_cleanables.Goals as goal

pub loop-i-preserved : goal.loop-i-preserved
loop-i-preserved c = cleanables_more c.args.places.now c.loop-i.i c.index-places-i.result c.args.out.now.items c.loop-i.out.items
    c.push_if_active.new.out.items c.loop-i-test.true c.index-places-i.is c.loop-i.invariant c.in_ok-push_if_active.ensures
