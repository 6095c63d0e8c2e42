use Rattle.std.proofs.Common.{subst}
use Rattle.std.specs.List.{All}
use Rattle.std.proofs.lemmas.List.Elements.{All-more, recursion_from_All}
use Rattle.jlr_trace_entries.proofs.WritingLaws.{take_whole}
use Rattle.jlr_trace.proofs.ranges.list.all_in_range.Goals as goal

pub loop-item-preserved : goal.loop-item-preserved
loop-item-preserved g c =
    All-more g.T.Ranged.Range c.args.items.now c.loop-item.item-index c.item-item.result c.loop-item-test.true c.loop-item.invariant
    (subst g.T.Ranged.Range c.item-item.is c.in_range.ensures)

pub returns : goal.returns
returns g c =
    recursion_from_All g.T.Ranged.Range c.args.items.now
    (subst (λ l. All g.T.Ranged.Range l) (take_whole c.args.items.now c.loop-item.item-index c.loop-item-test.false)
    c.loop-item.invariant)
