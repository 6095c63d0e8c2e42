use Rattle.std.proofs.Common.{length, ap, arith}
use Rattle.jlr_sets.proofs.Bits.{length-bits_of}
use Rattle.jlr_sets.proofs.slots.SlotSet.in_range.Goals as goal

pub returns : goal.returns
returns c = omega (arith, length-bits_of c.self.inside.words.items, ap length c.self.view_is, c.self.invariant)
