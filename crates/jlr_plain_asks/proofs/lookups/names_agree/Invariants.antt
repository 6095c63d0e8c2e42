use Rattle.std.proofs.Common.{◌≡◌, drop}
use Rattle.jlr_machine.specs.Lookups.{same_name}
use Rattle.jlr_plain_asks.proofs.lookups.names_agree.Given as goal

abbrev pub invariant-loop-i : goal.invariant-loop-i
invariant-loop-i l = same_name (drop l.i l.left) (drop l.i l.right) ≡ same_name l.left l.right
