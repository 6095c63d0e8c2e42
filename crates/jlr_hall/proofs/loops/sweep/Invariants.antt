use Rattle.jlr_log.specs.Seeing.{Seen}
use Rattle.jlr_hall.specs.declared.step.Step.{Step}
use Rattle.jlr_hall.specs.Loops.{AsksOnly, IsMarkers}
use Rattle.jlr_hall.proofs.loops.sweep.Given as goal

abbrev pub invariant-loop : goal.invariant-loop
invariant-loop g l = (first : Seen (Step g.row.R.Denot))
    → AsksOnly g.L.Limited.limits (IsMarkers g.L.Limited.limits l.fn.budget) first l.fn.seat
    → AsksOnly g.L.Limited.limits (IsMarkers g.L.Limited.limits l.fn.budget) first l.seat
