use Rattle.std.proofs.Common.{take}
use Rattle.jlr_machine.specs.Objects.{◌∈◌}
use Rattle.jlr_roots.specs.Naming.{named}
use Rattle.jlr_marks.specs.Marking.{Shaded}
use Rattle.jlr_barrier.proofs.shade.shade_names.Given as goal

-- what the names at the places so far stand for is shaded
abbrev pub invariant-loop-place : goal.invariant-loop-place
invariant-loop-place l = Shaded (λ x. x ∈ take l.place (named l.names)) l.fn.marks l.marks
