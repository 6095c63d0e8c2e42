use Rattle.std.proofs.Common.{take}
use Rattle.std.specs.List.{All}
use Rattle.jlr_trace.proofs.ranges.list.all_in_range.Given as goal

-- the items so far
abbrev pub invariant-loop-item : goal.invariant-loop-item
invariant-loop-item g l = All g.T.Ranged.Range (take l.item-index l.items)
