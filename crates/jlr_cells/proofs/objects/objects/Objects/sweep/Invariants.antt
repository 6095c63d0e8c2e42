use Rattle.std.proofs.Common.{◌≡◌, ◌+◌}
use Rattle.jlr_cells.proofs.objects.objects.Objects.sweep.Given as goal

-- so many were swept
abbrev pub invariant-loop-cell : goal.invariant-loop-cell
invariant-loop-cell l =
    record { objects : l.self.objects ≡ l.fn.self.objects; condemned : l.self.condemned + l._cell ≡ l.fn.self.condemned }
