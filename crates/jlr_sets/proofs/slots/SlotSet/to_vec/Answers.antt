use Rattle.std.proofs.Common.{◌+◌, ◌++◌, ◌∷◌, [], length, sym, ◌∙◌, ap, arith}
use Rattle.jlr_sets.proofs.Bits.{length-bits_of}
use Rattle.jlr_sets.proofs.Below.{slots_below-zero, slots_below_same, slots_below_set, within_places}
use Rattle.jlr_sets.proofs.slots.SlotSet.to_vec.Goals as goal

pub loop-slot-init : goal.loop-slot-init
loop-slot-init c = record { is = c.in_ok-slots.ensures.items ∙ sym (slots_below-zero c.args.self.now); within = omega arith }

pub overflow_cast-slot : goal.overflow_cast-slot
overflow_cast-slot c =
    let within = within_places c.args.self.now c.in-Some.slot c.in-Some.ensures.inside in
    omega (arith, length-bits_of c.self.inside.words.items, ap length c.self.view_is, c.self.invariant)

pub overflow_add-from : goal.overflow_add-from
overflow_add-from c =
    let within = within_places c.args.self.now c.in-Some.slot c.in-Some.ensures.inside in
    omega (arith, length-bits_of c.self.inside.words.items, ap length c.self.view_is, c.self.invariant)

pub loop-slot-preserved : goal.loop-slot-preserved
loop-slot-preserved c =
    let first = c.in-Some.ensures in
    let slot = c.in-Some.slot in
    let within = within_places c.args.self.now slot first.inside in
    record {
      is =
          c.in_ok-push.ensures.items
          ∙ ap (λ n. c.loop-slot.slots.items ++ n ∷ []) c.new.ensures
          ∙ ap (λ l. l ++ slot ∷ []) (c.loop-slot.invariant.is
          ∙ sym (slots_below_same c.loop-slot.from slot c.args.self.now first.at_least first.none_before))
          ∙ sym (slots_below_set slot (slot + 1) c.args.self.now (omega arith) first.inside);
      within = omega arith;
    }

pub returns : goal.returns
returns c =
    let places = c.args.self.now in
    c.loop-slot.invariant.is
    ∙ sym (slots_below_same c.loop-slot.from (length places) places c.loop-slot.invariant.within (λ k a b. c.in_default.ensures k a))
