use Rattle.std.proofs.Common.{◌≡◌}
use Rattle.jlr_machine.specs.ReachSet.{up_to}
use Rattle.jlr_plain_collections.proofs.seen.all_slots.Given as goal

abbrev pub invariant-loop-i : goal.invariant-loop-i
invariant-loop-i l = l.out.items ≡ up_to 0 l.i
