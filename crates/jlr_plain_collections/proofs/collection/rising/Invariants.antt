use Rattle.std.proofs.Common.{length, ◌-◌, ◌≡◌, drop}
use Rattle.jlr_machine.specs.Objects.{is_rising}
use Rattle.jlr_plain_collections.proofs.collection.rising.Given as goal

abbrev pub invariant-loop-i : goal.invariant-loop-i
invariant-loop-i l = is_rising (drop l.i l.slots) ≡ is_rising l.fn.slots

abbrev pub decreases-loop-i : goal.decreases-loop-i
decreases-loop-i l = length l.slots - l.i
