use Rattle.jlr_audit.proofs.Coming.{HasCome}
use Rattle.jlr_audit.proofs.streamed.read_on.Given as goal

abbrev pub invariant-loop : goal.invariant-loop
invariant-loop g l = HasCome l.fn.entries l.entries l.counter
