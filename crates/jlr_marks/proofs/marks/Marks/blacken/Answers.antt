use Rattle.std.proofs.Common.{◌<◌, ◌++◌, rules, true, length, count_by, sym, subst, ap, arith, length-set}
use Rattle.jlr_marks.specs.Marking.{AreGrey, slots_begun}
use Rattle.jlr_marks.proofs.MarkCounts.{count_more}
use Rattle.jlr_marks.proofs.Greying.{grey_still}
use Rattle.jlr_marks.proofs.marks.Marks.blacken.Goals as goal

pub invariant_of-self : goal.invariant_of-self
invariant_of-self c =
    let bits = c.self.inside.bits in
    let grey = slots_begun c.self.inside.part ++ c.self.inside.grey.items in
    let slot = c.args.slot in
    let inside : slot < length bits = search rules in
    let long = length-set bits slot true in (
      omega (arith, ap (count_by (λ b. b)) c.insert.ensures.set, count_more bits slot inside, c.self.invariant.0),
      omega (arith, ap length c.insert.ensures.set, long, c.self.invariant.1),
      omega (arith, ap length c.insert.ensures.set, long, c.self.invariant.2),
      subst (λ l. AreGrey l grey) (sym c.insert.ensures.set) (grey_still bits grey slot inside c.self.invariant.3),
    )
