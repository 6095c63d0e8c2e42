use Rattle.std.proofs.Common.{◌∙◌, length, take, ap, sym, arith}
use Rattle.std.proofs.lemmas.List.{length-take-le}
use Rattle.jlr_sets.specs.SlotSets.{slots_of}
use Rattle.jlr_sets.proofs.Assigning.{shown_slots}
use Rattle.jlr_sets.proofs.Below.{count_le}
use Rattle.jlr_sets.proofs.cell_set.CellSet.count.Goals as goal

pub overflow_cast-result : goal.overflow_cast-result
overflow_cast-result c =
    let places = take c.self.inside.cells c.self.inside.set in
    let same = ap length (shown_slots c.self.inside.cells c.self.inside.set c.self.invariant.0 c.self.invariant.1) in
    omega (
      arith,
      c.count.ensures.count,
      same,
      count_le (length places) places,
      length-take-le c.self.inside.cells c.self.inside.set c.self.invariant.0,
    )

pub returns : goal.returns
returns c =
    c.count.ensures.count
    ∙ ap length (sym (shown_slots c.self.inside.cells c.self.inside.set c.self.invariant.0 c.self.invariant.1))
    ∙ ap (λ p. length (slots_of p)) c.self.view_is
