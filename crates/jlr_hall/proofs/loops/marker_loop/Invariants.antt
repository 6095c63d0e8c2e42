use Rattle.jlr_hall.specs.Loops.{AsksOnly, IsMarkers}
use Rattle.jlr_hall.proofs.loops.marker_loop.Given as goal

abbrev pub invariant-loop : goal.invariant-loop
invariant-loop g l = AsksOnly g.L.Limited.limits (IsMarkers g.L.Limited.limits l.fn.budget) l.fn.seat l.seat
