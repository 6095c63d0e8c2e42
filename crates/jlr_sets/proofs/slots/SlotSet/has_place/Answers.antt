use Rattle.std.proofs.Common.{length, ap, arith}
use Rattle.std.proofs.lemmas.Bool.{ltb-true, lt-ltb}
use Rattle.jlr_sets.proofs.Bits.{length-bits_of}
use Rattle.jlr_sets.proofs.slots.SlotSet.has_place.Goals as goal

pub returns : goal.returns
returns c =
    let words = c.self.inside.words.items in
    let long = ap length c.self.view_is in (
      λ h. let l = ltb-true _ _ h in omega (arith, l, c.len.ensures, length-bits_of words, long, c.self.inside.words.ok.0),
      λ h. lt-ltb _ _ (omega (arith, h, c.len.ensures, length-bits_of words, long, c.self.inside.words.ok.0)),
    )
