use Rattle.std.proofs.Common.{◌≡◌, take}
use Rattle.jlr_cells.proofs.cell.Cell.image.Given as goal

-- the fields so far
abbrev pub invariant-loop-field : goal.invariant-loop-field
invariant-loop-field l = l.values.items ≡ take l.field l.fields
