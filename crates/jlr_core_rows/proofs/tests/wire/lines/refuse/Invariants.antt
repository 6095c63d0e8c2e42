use Rattle.std.proofs.Common.{length}
use Rattle.jlr_core_rows.proofs.tests.wire.lines.refuse.Given as goal

abbrev pub decreases-loop-rest : goal.decreases-loop-rest
decreases-loop-rest l = length l.rest
