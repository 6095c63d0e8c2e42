use Rattle.std.proofs.Common.{◌≡◌, ◌/◌, ◌%◌, ◌∙◌, length, get_or, eqb, ap, sym, arith}
use Rattle.std.proofs.lemmas.List.{get_or_read}
use Rattle.std.proofs.lemmas.Nat.Bits.{shr_and_one}
use Rattle.jlr_sets.specs.Bits.{is_bit}
use Rattle.jlr_sets.specs.SlotSets.{is_in}
use Rattle.jlr_sets.proofs.Bits.{length-bits_of, place_is}
use Rattle.jlr_sets.proofs.slots.SlotSet.contains.Goals as goal

pub index-word-requires : goal.index-word-requires
index-word-requires c =
    omega (arith, length-bits_of c.self.inside.words.items, ap length c.self.view_is, c.self.inside.words.ok.0)

pub returns : goal.returns
returns c =
    let words = c.self.inside.words.items in
    let slot = c.args.slot in
    let read : c.index-word.result.now ≡ get_or words (slot / 64) 0 =
    get_or_read words (slot / 64) _ (omega (arith, length-bits_of words, ap length c.self.view_is)) c.index-word.ensures 0 in
    ap (λ b. eqb b 1) (shr_and_one c.index-word.result.now (slot % 64))
    ∙ ap (λ w. is_bit w (slot % 64)) read
    ∙ sym (place_is words slot)
    ∙ ap (λ p. is_in p slot) c.self.view_is
