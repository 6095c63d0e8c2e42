use Rattle.std.proofs.Common.{arith, drop, ◌+◌}
use Rattle.jlr_machine.specs.Lookups.{with_resource}
use Rattle.jlr_plain_asks.proofs.Steps.{passed_more, resource_passed}
use Rattle.jlr_plain_asks.proofs.changes.lists.resource_added.Goals as goal

pub loop-i-preserved : goal.loop-i-preserved
loop-i-preserved c =
    passed_more (λ l. with_resource l c.args.resource) c.args.resources.now c.loop-i.i c.index-resources-i.result c.loop-i.out.items
    c.push-in-loop-i.new.self.items _ c.loop-i-test.true c.index-resources-i.is
    (resource_passed c.index-resources-i.result c.args.resource (drop (c.loop-i.i + 1) c.args.resources.now) (omega arith))
    c.loop-i.invariant c.in_ok-push-2.ensures.items
