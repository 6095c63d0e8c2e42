use Rattle.std.proofs.Common.{ℕ, refl}
use Rattle.jlr_plain_collections.proofs.Slow.{loop_more}
use Rattle.jlr_plain_collections.proofs.edges.push_all.Goals as goal

pub loop-slot-preserved : goal.loop-slot-preserved
loop-slot-preserved c =
    loop_more {A = ℕ} {B = ℕ} (λ l. l) (λ xs ys. refl) c.args.slots.now c.loop-slot.slot-index c.slot-item.result c.args.out.now.items
    c.loop-slot.out.items c.push.new.self.items c.loop-slot-test.true c.slot-item.is c.loop-slot.invariant c.in_ok-push.ensures.items
