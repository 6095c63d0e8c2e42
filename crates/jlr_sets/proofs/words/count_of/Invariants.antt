use Rattle.std.proofs.Common.{◌≡◌, ◌*◌, length}
use Rattle.jlr_sets.specs.Bits.{bits_of}
use Rattle.jlr_sets.specs.SlotSets.{slots_below}
use Rattle.jlr_sets.proofs.words.count_of.Given as goal

abbrev pub invariant-loop-word : goal.invariant-loop-word
invariant-loop-word l = l.count ≡ length (slots_below (64 * l.word-index) (bits_of l.words))
