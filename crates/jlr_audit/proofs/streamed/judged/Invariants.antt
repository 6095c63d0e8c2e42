use Rattle.jlr_audit.proofs.Coming.{HasRun}
use Rattle.jlr_audit.proofs.streamed.judged.Given as goal

abbrev pub invariant-loop-number : goal.invariant-loop-number
invariant-loop-number g l = HasRun l.fn.image l.fn.entries l.machine l.entries l.number
