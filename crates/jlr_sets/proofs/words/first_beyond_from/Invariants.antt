use Rattle.std.proofs.Common.{◌≤◌, ◌-◌, ◌*◌, length}
use Rattle.jlr_sets.specs.Bits.{bits_of}
use Rattle.jlr_sets.specs.SlotSets.{NoneBetween, beyond}
use Rattle.jlr_sets.proofs.words.first_beyond_from.Given as goal

abbrev pub invariant-loop-at : goal.invariant-loop-at
invariant-loop-at l =
    record { below : l.from ≤ 64 * l.at; none : NoneBetween (beyond (bits_of l.words) (bits_of l.others)) l.from (64 * l.at) }

abbrev pub decreases-loop-at : goal.decreases-loop-at
decreases-loop-at l = length l.words - l.at
