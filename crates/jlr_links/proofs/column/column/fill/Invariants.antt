use Rattle.std.proofs.Common.{◌≡◌, ◌≤◌, ◌-◌, vec_len, vec_capacity}
use Rattle.jlr_links.specs.Columns.{IsLonger}
use Rattle.jlr_links.proofs.column.column.fill.Given as goal

-- the column holds what it held
abbrev pub invariant-loop-front : goal.invariant-loop-front
invariant-loop-front g l = record {
  room : vec_capacity l.front ≡ vec_capacity l.fn.front;
  within : l.end ≤ l.count;
  same : IsLonger l.count g.T.Blank.nothing l.fn.front.items l.front.items;
}

abbrev pub decreases-loop-front : goal.decreases-loop-front
decreases-loop-front g l = l.end - vec_len l.front
