use Rattle.std.proofs.Common.{◌∙◌, ◌<◌, true, not, length, set, take, ap, sym, arith}
use Rattle.std.proofs.Math.Seq.{take-set-lt}
use Rattle.std.proofs.lemmas.List.{length-take-le}
use Rattle.jlr_sets.specs.SlotSets.{is_in}
use Rattle.jlr_sets.proofs.Assigning.{shown_place}
use Rattle.jlr_sets.proofs.cell_set.CellSet.insert.Goals as goal

pub returns-clause-set : goal.returns-clause-set
returns-clause-set c =
    let places = c.self.inside.set in
    let cells = c.self.inside.cells in
    let slot = c.args.slot in
    let within : slot < cells = omega (arith, c.requires, ap length c.self.view_is, length-take-le cells places c.self.invariant.0) in
    ap (take cells) (c.insert.ensures.set ∙ ap (λ n. set places n true) c.number.ensures)
    ∙ take-set-lt cells places slot true within
    ∙ ap (λ p. set p slot true) c.self.view_is

pub returns-clause-added : goal.returns-clause-added
returns-clause-added c =
    let places = c.self.inside.set in
    let cells = c.self.inside.cells in
    c.insert.ensures.added
    ∙ ap (λ n. not (is_in places n)) c.number.ensures
    ∙ ap not (sym (shown_place cells places c.self.invariant.0 c.self.invariant.1 c.args.slot)
    ∙ ap (λ p. is_in p c.args.slot) c.self.view_is)
