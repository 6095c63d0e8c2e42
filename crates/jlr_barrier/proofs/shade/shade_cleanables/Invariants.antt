use Rattle.std.proofs.Common.{◌<◌, ◌-◌, IsTrue}
use Rattle.jlr_machine.specs.Objects.{at}
use Rattle.jlr_machine.specs.Edges.{is_own_root}
use Rattle.jlr_marks.specs.Marking.{Shaded}
use Rattle.jlr_barrier.proofs.shade.shade_cleanables.Given as goal

-- the own roots in the cells so far are shaded
abbrev pub invariant-loop-from : goal.invariant-loop-from
invariant-loop-from l = Shaded (λ x. (x < l.from) × IsTrue (is_own_root (at l.cells.objects x))) l.fn.marks l.marks

abbrev pub decreases-loop-from : goal.decreases-loop-from
decreases-loop-from l = l.count - l.from
