use Rattle.std.proofs.Common.{◌+◌, ◌<◌, ◌≤◌, false, slice_index_or, take, ◌∷◌, [], ◌++◌, ◌∙◌, length, refl, sym, ap, arith}
use Rattle.std.proofs.lemmas.List.{take_more}
use Rattle.jlr_sets.specs.SlotSets.{slots_of, NoneFrom}
use Rattle.jlr_machine.proofs.Members.{none_set, inserted_above_is_last, none_after_insert}
use Rattle.jlr_machine.proofs.kept.fill.Goals as goal

pub loop-slot-init : goal.loop-slot-init
loop-slot-init c = record { is = none_set c.args.set.now c.requires; counted = refl; none = c.requires }

pub loop-slot-preserved : goal.loop-slot-preserved
loop-slot-preserved c =
    let i = c.loop-slot.invariant in
    let set = c.loop-slot.set in
    let slot = c.number-number.result in
    let within : slot < length set = c.if-not-has_place.ensures.0 refl in
    let low : c.loop-slot.from ≤ slot = c.if-number-from.false in
    let none : NoneFrom set slot = λ k high. i.none k (omega (arith, low, high)) in
    record {
      is =
          ap slots_of c.insert.ensures.set
          ∙ inserted_above_is_last set slot within none
          ∙ ap (λ l. l ++ slot ∷ []) i.is
          ∙ ap (λ n. take c.loop-slot.count c.args.slots.now ++ n ∷ [])
          (c.number-number.ensures ∙ c.slot-item.is ∙ ap (λ k. slice_index_or c.args.slots.now k c.slot-item.result) (sym i.counted))
          ∙ sym (take_more c.args.slots.now c.loop-slot.count c.slot-item.result (omega (arith, i.counted, c.loop-slot-test.true)));
      counted = ap (λ n. n + 1) i.counted;
      none = λ k high. ap (λ l. slice_index_or l k false) c.insert.ensures.set ∙ none_after_insert set slot (slot + 1) refl none k high;
    }
