use Rattle.std.proofs.Common.{◌∙◌, ap, sym, subst, length, take, arith}
use Rattle.std.proofs.lemmas.List.{length-take-le}
use Rattle.jlr_sets.specs.SlotSets.{beyond, IsFirstFrom, NoneFrom}
use Rattle.jlr_sets.proofs.Beyond.{beyond_shown, is_set}
use Rattle.jlr_sets.proofs.cell_set.CellSet.next_beyond.Goals as goal

pub overflow_cast-place : goal.overflow_cast-place
overflow_cast-place c = omega (arith, c.self.invariant.1 c.in-Some.place (is_set _ _ c.in-Some.place c.in-Some.ensures.inside))

pub returns-in-Some-clause-first : goal.returns-in-Some-clause-first
returns-in-Some-clause-first c =
    let first = c.in-Some.ensures in
    let place = c.in-Some.place in
    let same = beyond_shown c.self.inside.cells c.self.inside.set c.self.invariant.0 c.self.invariant.1 c.other.inside.cells
    c.other.inside.set c.other.invariant.0 c.other.invariant.1 in
    subst (λ n. IsFirstFrom (beyond c.args.self.now c.args.other.now) c.args.from n) (sym c.new.ensures)
    (subst (λ p. IsFirstFrom (beyond p c.args.other.now) c.args.from place) c.self.view_is
    (subst (λ p. IsFirstFrom (beyond (take c.self.inside.cells c.self.inside.set) p) c.args.from place) c.other.view_is (record {
      at_least = first.at_least;
      inside = same place ∙ first.inside;
      none_before = λ k a b. same k ∙ first.none_before k a b;
    })))

pub returns-in-Some-clause-few : goal.returns-in-Some-clause-few
returns-in-Some-clause-few c =
    omega (arith, ap length c.self.view_is, length-take-le c.self.inside.cells c.self.inside.set c.self.invariant.0)

pub returns-in-None-clause-first : goal.returns-in-None-clause-first
returns-in-None-clause-first c =
    let same = beyond_shown c.self.inside.cells c.self.inside.set c.self.invariant.0 c.self.invariant.1 c.other.inside.cells
    c.other.inside.set c.other.invariant.0 c.other.invariant.1 in
    subst (λ p. NoneFrom (beyond p c.args.other.now) c.args.from) c.self.view_is
    (subst (λ p. NoneFrom (beyond (take c.self.inside.cells c.self.inside.set) p) c.args.from) c.other.view_is
    (λ k a. same k ∙ c.in-None.ensures k a))

pub returns-in-None-clause-few : goal.returns-in-None-clause-few
returns-in-None-clause-few c =
    omega (arith, ap length c.self.view_is, length-take-le c.self.inside.cells c.self.inside.set c.self.invariant.0)
