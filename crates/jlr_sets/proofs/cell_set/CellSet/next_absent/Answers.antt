use Rattle.std.proofs.Common.{ap, subst, sym, length, arith}
use Rattle.std.proofs.lemmas.List.{length-take-le}
use Rattle.jlr_sets.specs.SlotSets.{absent, IsFirstFrom, NoneFrom}
use Rattle.jlr_sets.proofs.Absent.{first_shown, none_shown}
use Rattle.jlr_sets.proofs.cell_set.CellSet.next_absent.Goals as goal

pub returns-then-place-cells-clause-first : goal.returns-then-place-cells-clause-first
returns-then-place-cells-clause-first c =
    subst (λ n. IsFirstFrom (absent c.args.self.now) c.args.from n) (sym c.new.ensures)
    (subst (λ p. IsFirstFrom (absent p) c.args.from c.in-Some.place) c.self.view_is
    (first_shown c.self.inside.cells c.self.inside.set c.self.invariant.0 c.args.from c.in-Some.place (omega arith) c.in-Some.ensures))

pub returns-else-place-cells-clause-first : goal.returns-else-place-cells-clause-first
returns-else-place-cells-clause-first c =
    subst (λ p. NoneFrom (absent p) c.args.from) c.self.view_is
    (none_shown c.self.inside.cells c.self.inside.set c.self.invariant.0 c.args.from
    (λ k a b. c.in-Some.ensures.none_before k a (omega (arith, b, c.if-place-cells.false))))

pub returns-in-None-clause-first : goal.returns-in-None-clause-first
returns-in-None-clause-first c =
    subst (λ p. NoneFrom (absent p) c.args.from) c.self.view_is
    (none_shown c.self.inside.cells c.self.inside.set c.self.invariant.0 c.args.from (λ k a b. c.in-None.ensures k a))

pub returns-then-place-cells-clause-few : goal.returns-then-place-cells-clause-few
returns-then-place-cells-clause-few c =
    omega (arith, ap length c.self.view_is, length-take-le c.self.inside.cells c.self.inside.set c.self.invariant.0)

pub returns-else-place-cells-clause-few : goal.returns-else-place-cells-clause-few
returns-else-place-cells-clause-few c =
    omega (arith, ap length c.self.view_is, length-take-le c.self.inside.cells c.self.inside.set c.self.invariant.0)

pub returns-in-None-clause-few : goal.returns-in-None-clause-few
returns-in-None-clause-few c =
    omega (arith, ap length c.self.view_is, length-take-le c.self.inside.cells c.self.inside.set c.self.invariant.0)
