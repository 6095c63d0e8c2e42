use Rattle.std.proofs.Common.{◌∙◌, ◌<◌, false, length, set, take, ap, arith}
use Rattle.std.proofs.Math.Seq.{take-set-lt}
use Rattle.std.proofs.lemmas.List.{length-take-le}
use Rattle.jlr_sets.proofs.cell_set.CellSet.remove.Goals as goal

pub returns : goal.returns
returns c =
    let places = c.self.inside.set in
    let cells = c.self.inside.cells in
    let slot = c.args.slot in
    let within : slot < cells = omega (arith, c.requires, ap length c.self.view_is, length-take-le cells places c.self.invariant.0) in
    ap (take cells) (c.remove.ensures ∙ ap (λ n. set places n false) c.number.ensures)
    ∙ take-set-lt cells places slot false within
    ∙ ap (λ p. set p slot false) c.self.view_is
