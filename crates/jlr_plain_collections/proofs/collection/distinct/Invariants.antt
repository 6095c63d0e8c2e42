use Rattle.std.proofs.Common.{length, ◌-◌, ◌≡◌, drop}
use Rattle.jlr_machine.specs.Objects.{is_distinct}
use Rattle.jlr_plain_collections.proofs.collection.distinct.Given as goal

abbrev pub invariant-loop-i : goal.invariant-loop-i
invariant-loop-i l = is_distinct (drop l.i l.slots) ≡ is_distinct l.fn.slots

abbrev pub decreases-loop-i : goal.decreases-loop-i
decreases-loop-i l = length l.slots - l.i
