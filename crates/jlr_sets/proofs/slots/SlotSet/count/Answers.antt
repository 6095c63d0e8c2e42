use Rattle.std.proofs.Common.{length, ap, arith}
use Rattle.jlr_sets.specs.Bits.{bits_of}
use Rattle.jlr_sets.proofs.Bits.{length-bits_of}
use Rattle.jlr_sets.proofs.Below.{count_le}
use Rattle.jlr_sets.proofs.slots.SlotSet.count.Goals as goal

pub returns-clause-fits : goal.returns-clause-fits
returns-clause-fits c =
    let places = bits_of c.deref.result.now in
    omega (
      arith,
      c.count_of.ensures,
      count_le (length places) places,
      length-bits_of c.deref.result.now,
      ap length c.deref.ensures.value,
      c.self.invariant,
    )
