use Rattle.std.proofs.Common.{◌≤◌, ◌-◌, ◌*◌, length}
use Rattle.jlr_sets.specs.Bits.{bits_of}
use Rattle.jlr_sets.specs.SlotSets.{NoneBetween}
use Rattle.jlr_sets.proofs.words.first_from.Given as goal

abbrev pub invariant-loop-at : goal.invariant-loop-at
invariant-loop-at l = record { below : l.from ≤ 64 * l.at; none : NoneBetween (bits_of l.words) l.from (64 * l.at) }

abbrev pub decreases-loop-at : goal.decreases-loop-at
decreases-loop-at l = length l.words - l.at
