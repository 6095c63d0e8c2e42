use Rattle.std.proofs.Common.{◌≡◌, ◌*◌, ◌/◌, ◌%◌, ◌<◌, ◌∙◌, ℕ, List, Bool, true, false, not, eqb, length, get_or, set, inl, inr, ap, sym}
use Rattle.std.proofs.Common.{arith, slice_index_or, bit_and, ◌^◌}
use Rattle.std.proofs.lemmas.Nat.Bits.{shr_and_one}
use Rattle.std.proofs.lemmas.Bool.Decides.{eqb_tells}
use Rattle.jlr_sets.specs.Bits.{is_bit, bits_of}
use Rattle.jlr_sets.specs.SlotSets.{is_in}
use Rattle.std.proofs.lemmas.List.{get_or_read, set-get_or}
use Rattle.jlr_sets.proofs.Bits.{length-bits_of, bits_of_set, place_is}
use Rattle.jlr_sets.proofs.slots.SlotSet.insert.Goals as goal

-- whether the slot is in the set is what its word says
read_in : (words : List ℕ) (places : List Bool) (slot word : ℕ) → bits_of words ≡ places → slot < length places
    → word ≡ slice_index_or words (slot / 64) word
    → eqb (bit_and (word / 2 ^ (slot % 64)) 1) 1 ≡ is_in places slot
read_in words places slot word view within told =
    let read : word ≡ get_or words (slot / 64) 0 =
    get_or_read words (slot / 64) _ (omega (arith, length-bits_of words, ap length view)) told 0 in
    ap (λ b. eqb b 1) (shr_and_one word (slot % 64))
    ∙ ap (λ w. is_bit w (slot % 64)) read
    ∙ sym (place_is words slot)
    ∙ ap (λ p. is_in p slot) view

pub index-word-requires : goal.index-word-requires
index-word-requires c =
    omega (arith, length-bits_of c.self.inside.words.items, ap length c.self.view_is, c.self.inside.words.ok.0)

pub returns-then-word-slot-eq1-clause-set : goal.returns-then-word-slot-eq1-clause-set
returns-then-word-slot-eq1-clause-set c =
    let there : true ≡ is_in c.args.self.now c.args.slot = sym (ap (λ b. eqb b 1) c.if-word-slot-eq1.true)
    ∙ read_in c.self.inside.words.items c.args.self.now c.args.slot c.index-word.result.now c.self.view_is c.requires
    c.index-word.ensures in
    sym (ap (set c.args.self.now c.args.slot) there ∙ set-get_or c.args.self.now c.args.slot false)

pub returns-then-word-slot-eq1-clause-added : goal.returns-then-word-slot-eq1-clause-added
returns-then-word-slot-eq1-clause-added c =
    ap not (sym (ap (λ b. eqb b 1) c.if-word-slot-eq1.true)
    ∙ read_in c.self.inside.words.items c.args.self.now c.args.slot c.index-word.result.now c.self.view_is c.requires
    c.index-word.ensures)

pub index_mut-requires : goal.index_mut-requires
index_mut-requires c =
    omega (arith, length-bits_of c.self.inside.words.items, ap length c.self.view_is, c.self.inside.words.ok.0)

pub returns-clause-set : goal.returns-clause-set
returns-clause-set c =
    let words = c.self.inside.words.items in
    let within : c.args.slot < 64 * length words = omega (arith, length-bits_of words, ap length c.self.view_is) in
    let read : c.index-word.result.now ≡ get_or words (c.args.slot / 64) 0 =
    get_or_read words (c.args.slot / 64) _ (omega arith) c.index-word.ensures 0 in
    rw (← c.self.view_is) (bits_of_set words c.args.slot c.index-word.result.now within read)

pub returns-clause-added : goal.returns-clause-added
returns-clause-added c =
    let bit = bit_and (c.index-word.result.now / 2 ^ (c.args.slot % 64)) 1 in
    let clear : eqb bit 1 ≡ false = elim (eqb_tells bit 1) [
      | inl set ↦ absurd (c.if-word-slot-eq1.false set.1)
      | inr other ↦ other.0
    ] in
    ap not (sym clear ∙ read_in c.self.inside.words.items c.args.self.now c.args.slot c.index-word.result.now c.self.view_is c.requires
    c.index-word.ensures)
