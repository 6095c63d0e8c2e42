use Rattle.std.proofs.Common.{subst}
use Rattle.std.specs.List.{All}
use Rattle.std.proofs.lemmas.List.{take_all}
use Rattle.std.proofs.lemmas.List.Elements.{All-more, recursion_from_All}
use Rattle.jlr_sets.specs.SlotSets.{IsSlotNumber}
use Rattle.jlr_machine.proofs.kept.numbers_in_range.Goals as goal

pub loop-slot-preserved : goal.loop-slot-preserved
loop-slot-preserved c =
    All-more IsSlotNumber c.args.slots.now c.loop-slot.slot-index c.slot-item.result c.loop-slot-test.true c.loop-slot.invariant
    (subst IsSlotNumber c.slot-item.is (subst IsSlotNumber c.number-number.ensures c.number-number.type_inv))

pub returns : goal.returns
returns c =
    recursion_from_All IsSlotNumber c.args.slots.now
    (subst (λ l. All IsSlotNumber l) (take_all c.loop-slot.slot-index c.args.slots.now c.loop-slot-test.false) c.loop-slot.invariant)
