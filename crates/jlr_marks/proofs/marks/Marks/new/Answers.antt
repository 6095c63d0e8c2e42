use Rattle.std.proofs.Common.{Bool, false, length, sym, subst, ap, arith}
use Rattle.std.proofs.lemmas.List.{length-replicate}
use Rattle.jlr_marks.specs.Marking.{AreGrey}
use Rattle.jlr_marks.proofs.Greying.{none_grey}
use Rattle.jlr_marks.proofs.marks.Marks.new.Goals as goal

pub invariant_of-result : goal.invariant_of-result
invariant_of-result c =
    let bits = c.in_ok-new.field-0 in
    let cells = length-replicate {A = Bool} c.args.cells false in (
      omega (arith, ap length c.in_ok-with_capacity.ensures.items, ap length c.in_ok-with_capacity-2.ensures.items),
      omega (arith, ap length c.in_ok-new.ensures, cells, c.in_ok-with_capacity.ensures.capacity),
      omega (arith, ap length c.in_ok-new.ensures, cells, c.in_ok-with_capacity-2.ensures.capacity),
      subst (AreGrey bits) (sym c.in_ok-with_capacity.ensures.items) (none_grey bits),
    )
