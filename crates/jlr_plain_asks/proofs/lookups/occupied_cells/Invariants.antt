use Rattle.std.proofs.Common.{◌≡◌, ◌≤◌, take}
use Rattle.jlr_machine.specs.Objects.{occupied}
use Rattle.jlr_plain_asks.proofs.lookups.occupied_cells.Given as goal

abbrev pub invariant-loop-place : goal.invariant-loop-place
invariant-loop-place l = (l.count ≡ occupied (take l.place-index l.places)) × (l.count ≤ l.place-index)
