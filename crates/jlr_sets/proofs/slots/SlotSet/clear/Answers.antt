use Rattle.std.proofs.Common.{◌≡◌, ◌*◌, ◌∙◌, false, length, replicate, ap, arith}
use Rattle.jlr_sets.specs.Bits.{bits_of}
use Rattle.jlr_sets.proofs.Bits.{length-bits_of, bits_of_zeros}
use Rattle.jlr_sets.proofs.slots.SlotSet.clear.Goals as goal

pub returns : goal.returns
returns c =
    let words = c.self.inside.words.items in
    let n = c.self.inside.words.len in
    let long : 64 * n ≡ length c.args.self.now = omega (arith, length-bits_of words, ap length c.self.view_is, c.self.inside.words.ok.0) in
    ap bits_of (c.fill.ensures.items (λ y e. e)) ∙ bits_of_zeros n ∙ ap (λ k. replicate k false) long
