use Rattle.std.proofs.Common.{◌∙◌, false, take, ap}
use Rattle.std.proofs.lemmas.List.{take-replicate}
use Rattle.jlr_sets.specs.SlotSets.{places_for}
use Rattle.jlr_sets.proofs.Bits.{room_for}
use Rattle.jlr_sets.proofs.cell_set.CellSet.new.Goals as goal

pub returns : goal.returns
returns c =
    ap (take c.args.cells) c.in_ok-with_cells.ensures.empty
    ∙ take-replicate c.args.cells (places_for c.args.cells) false (room_for c.args.cells)
