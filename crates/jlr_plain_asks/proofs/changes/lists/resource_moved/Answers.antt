use Rattle.std.proofs.Common.{◌≡◌, ◌++◌, ◌∷◌, []}
use Rattle.std.specs.Prelude.{◌==◌, if◌then◌else◌}
use Rattle.jlr_machine.specs.declared.machine.Resource.{Resource}
use Rattle.jlr_plain_asks.proofs.Steps.{mapped_more}
use Rattle.jlr_plain_asks.proofs.changes.lists.resource_moved.Goals as goal

pub loop-resource-preserved : goal.loop-resource-preserved
loop-resource-preserved c =
    let pushed : c.push.new.self.items ≡ c.loop-resource.out.items
    ++ (if c.resource-item.result.rid == c.args.rid then record c.resource-item.result { state = c.args.state } else
    c.resource-item.result) ∷ [] = let e = c.moved.ensures in let f = c.in_ok-push.ensures.items in cc in
    mapped_more {X = Resource} {Y = Resource} (λ r. if r.rid == c.args.rid then record r { state = c.args.state } else r)
    c.args.resources.now c.loop-resource.resource-index c.resource-item.result c.loop-resource.out.items c.push.new.self.items
    c.loop-resource-test.true c.resource-item.is c.loop-resource.invariant pushed
