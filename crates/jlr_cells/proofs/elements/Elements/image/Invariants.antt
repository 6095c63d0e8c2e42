use Rattle.std.proofs.Common.{◌≡◌, take}
use Rattle.jlr_cells.proofs.elements.Elements.image.Given as goal

-- the elements so far
abbrev pub invariant-loop-place : goal.invariant-loop-place
invariant-loop-place l = l.slots.items ≡ take l.place l.self
