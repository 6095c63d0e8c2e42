use Rattle.jlr_machine.specs.Objects.{◌∈◌}
use Rattle.jlr_roots.specs.Walk.{walked}
use Rattle.jlr_marks.specs.Marking.{Shaded}
use Rattle.jlr_barrier.proofs.shade.shade_roots.Given as goal

-- the roots at the places so far are shaded
abbrev pub invariant-loop-place : goal.invariant-loop-place
invariant-loop-place l = Shaded (λ x. x ∈ walked l.roots l.place) l.fn.marks l.marks
