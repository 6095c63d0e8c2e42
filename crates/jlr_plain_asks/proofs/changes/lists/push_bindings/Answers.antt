use Rattle.std.proofs.Common.{◌≡◌, ◌++◌, ◌∷◌, []}
use Rattle.jlr_plain_asks.proofs.Steps.{pushed_more}
use Rattle.jlr_plain_asks.proofs.changes.lists.push_bindings.Goals as goal

pub loop-binding-preserved : goal.loop-binding-preserved
loop-binding-preserved c =
    let pushed : c.push.new.self.items ≡ c.loop-binding.out.items ++ c.binding-item.result ∷ [] =
    let e = c.copy.ensures in let f = c.in_ok-push.ensures.items in cc in
    pushed_more c.args.names.now c.loop-binding.binding-index c.binding-item.result c.args.out.now.items c.loop-binding.out.items
    c.push.new.self.items c.loop-binding-test.true c.binding-item.is c.loop-binding.invariant pushed
