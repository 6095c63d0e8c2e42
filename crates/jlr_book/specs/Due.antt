-- When a cycle is to begin.
use Rattle.std.specs.Prelude.{◌≡◌, ◌≤◌, ◌*◌, false}
use Rattle.jlr_book.specs.Histories.{History}

-- none is open, and of the cells a quarter or more was taken since a collection finished last
abbrev pub IsCycleDue : {R : Type 0} → History R → Type 0
IsCycleDue h = (h.core.machine.cycle_open ≡ false) × (h.limits.cells ≤ 4 * h.core.clock.since)
