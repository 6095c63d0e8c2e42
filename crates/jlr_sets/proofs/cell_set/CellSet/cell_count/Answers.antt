use Rattle.std.proofs.Common.{◌∙◌, ap, sym, length}
use Rattle.std.proofs.lemmas.List.{length-take-le}
use Rattle.jlr_sets.proofs.cell_set.CellSet.cell_count.Goals as goal

pub returns : goal.returns
returns c = sym (length-take-le c.self.inside.cells c.self.inside.set c.self.invariant.0) ∙ ap length c.self.view_is
