use Rattle.std.proofs.Common.{◌≡◌, drop}
use Rattle.std.specs.Cmp.Lexicographic.{pointwise}
use Rattle.jlr_laws.specs.Same.{same_failure}
use Rattle.jlr_plain_asks.proofs.answers.answers.all_failures_agree.Given as goal

abbrev pub invariant-loop-i : goal.invariant-loop-i
invariant-loop-i l = pointwise same_failure (drop l.i l.left) (drop l.i l.right) ≡ pointwise same_failure l.left l.right
