use Rattle.std.proofs.Common.{◌≡◌, drop}
use Rattle.std.specs.Prelude.{bytes_eq}
use Rattle.std.specs.Cmp.Lexicographic.{pointwise}
use Rattle.jlr_machine.specs.Lookups.{bound_names}
use Rattle.jlr_plain_asks.proofs.answers.answers.all_names_agree.Given as goal

abbrev pub invariant-loop-i : goal.invariant-loop-i
invariant-loop-i l = pointwise bytes_eq (drop l.i l.left) (bound_names (drop l.i l.right)) ≡ pointwise bytes_eq l.left (bound_names l.right)
