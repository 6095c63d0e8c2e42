use Rattle.std.proofs.Common.{◌≡◌, ◌∙◌, ◌++◌, ap, take, drop, length, arith}
use Rattle.std.proofs.lemmas.Grind.{common_steps}
use Rattle.jlr_machine.specs.Edges.{roots}
use Rattle.jlr_machine.specs.ReachSet.{up_to}
use Rattle.jlr_plain_collections.proofs.Slots.{roots_marked}
use Rattle.jlr_plain_collections.proofs.seen.marks_of_roots.Goals as goal

pub returns : goal.returns
returns c =
    let marks : take c.in_ok-marks.marks.len (c.mark_reached.new.marks ++ drop (length c.mark_reached.new.marks) c.in_ok-marks.marks.items)
    ≡ c.mark_reached.new.marks = grind (arith, common_steps) in
    let slots : c.in_ok-slots.slots ≡ up_to 0 (length c.args.machine.now.objects) = c.in_ok-slots.ensures
    ∙ ap (up_to 0) c.len-cells.ensures in
    roots_marked c.args.machine.now.objects (roots c.args.machine.now) c.as_slice.result.now c.in_ok-slots.slots c.mark_reached.new.marks _
    (c.as_slice.ensures.value ∙ c.in_ok-base.ensures) slots marks c.in_ok-mark_reached.ensures.reached
