use Rattle.std.proofs.Common.{◌≡◌, replicate, None}
use Rattle.jlr_plain.proofs.empty.no_objects.Given as goal

abbrev pub invariant-loop-cell : goal.invariant-loop-cell
invariant-loop-cell l = l.out.items ≡ replicate l._cell None
