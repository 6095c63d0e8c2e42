use Rattle.jlr_server.specs.Serving.{Stays}
use Rattle.jlr_server.proofs.server.worker.Given as goal

abbrev pub invariant-loop : goal.invariant-loop
invariant-loop g l = Stays l.fn.work l.work
