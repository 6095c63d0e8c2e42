use Rattle.jlr_hall.specs.Loops.{AsksOnly, IsHandlers}
use Rattle.jlr_hall.proofs.loops.handler_loop.Given as goal

abbrev pub invariant-loop : goal.invariant-loop
invariant-loop g l = AsksOnly g.L.Limited.limits (IsHandlers g.L.Limited.limits) l.fn.seat l.seat
