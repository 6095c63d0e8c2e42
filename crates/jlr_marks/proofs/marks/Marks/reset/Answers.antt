use Rattle.std.proofs.Common.{Bool, false, length, sym, subst, ap, arith}
use Rattle.std.proofs.lemmas.List.{length-replicate}
use Rattle.jlr_marks.specs.Marking.{AreGrey}
use Rattle.jlr_marks.proofs.Greying.{none_grey}
use Rattle.jlr_marks.proofs.marks.Marks.reset.Goals as goal

pub invariant_of-self : goal.invariant_of-self
invariant_of-self c =
    let bits = c.clear.new.self in
    let cells = length-replicate {A = Bool} (length c.self.inside.bits) false in (
      omega (arith, ap length c.clear-2.ensures.items, ap length c.clear-3.ensures.items),
      omega (arith, ap length c.clear.ensures, cells, c.self.invariant.1, c.clear-2.ensures.capacity),
      omega (arith, ap length c.clear.ensures, cells, c.self.invariant.2, c.clear-3.ensures.capacity),
      subst (AreGrey bits) (sym c.clear-2.ensures.items) (none_grey bits),
    )
