use Rattle.std.proofs.Common.{◌≡◌, ◌∙◌, false, length, replicate, take, ap, arith}
use Rattle.std.proofs.lemmas.List.{take-replicate, length-take-le}
use Rattle.jlr_sets.proofs.cell_set.CellSet.clear.Goals as goal

pub returns : goal.returns
returns c =
    let places = c.self.inside.set in
    let cells = c.self.inside.cells in
    let long : cells ≡ length c.args.self.now = omega (arith, ap length c.self.view_is, length-take-le cells places c.self.invariant.0) in
    ap (take cells) c.clear.ensures
    ∙ take-replicate cells (length places) false c.self.invariant.0
    ∙ ap (λ n. replicate n false) long
