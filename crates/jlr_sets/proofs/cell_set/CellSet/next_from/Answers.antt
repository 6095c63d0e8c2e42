use Rattle.std.proofs.Common.{◌∙◌, ap, subst, sym, length, arith}
use Rattle.std.proofs.lemmas.List.{length-take-le}
use Rattle.jlr_sets.specs.SlotSets.{IsFirstFrom, NoneFrom}
use Rattle.jlr_sets.proofs.Assigning.{shown_place}
use Rattle.jlr_sets.proofs.cell_set.CellSet.next_from.Goals as goal

pub overflow_cast-place : goal.overflow_cast-place
overflow_cast-place c = omega (arith, c.self.invariant.1 c.in-Some.place c.in-Some.ensures.inside)

pub returns-in-Some-clause-first : goal.returns-in-Some-clause-first
returns-in-Some-clause-first c =
    let first = c.in-Some.ensures in
    let same = shown_place c.self.inside.cells c.self.inside.set c.self.invariant.0 c.self.invariant.1 in
    subst (λ n. IsFirstFrom c.args.self.now c.args.from n) (sym c.new.ensures)
    (subst (λ p. IsFirstFrom p c.args.from c.in-Some.place) c.self.view_is (record {
      at_least = first.at_least;
      inside = same c.in-Some.place ∙ first.inside;
      none_before = λ k a b. same k ∙ first.none_before k a b;
    }))

pub returns-in-None-clause-first : goal.returns-in-None-clause-first
returns-in-None-clause-first c =
    subst (λ p. NoneFrom p c.args.from) c.self.view_is
    (λ k a. shown_place c.self.inside.cells c.self.inside.set c.self.invariant.0 c.self.invariant.1 k ∙ c.in-None.ensures k a)

pub returns-in-Some-clause-few : goal.returns-in-Some-clause-few
returns-in-Some-clause-few c =
    omega (arith, ap length c.self.view_is, length-take-le c.self.inside.cells c.self.inside.set c.self.invariant.0)

pub returns-in-None-clause-few : goal.returns-in-None-clause-few
returns-in-None-clause-few c =
    omega (arith, ap length c.self.view_is, length-take-le c.self.inside.cells c.self.inside.set c.self.invariant.0)
