use Rattle.std.proofs.Common.{◌<◌}
use Rattle.jlr_session.specs.Limits.{most_lines}
use Rattle.jlr_session.proofs.SessionSoFar.{Stands}
use Rattle.jlr_session.proofs.shell.converse.Given as goal

abbrev pub invariant-loop-left : goal.invariant-loop-left
invariant-loop-left g l = (l.answered < most_lines)
    × Stands g.C.CarryOut.carries (g.R.Read.remaining l.fn.reader) (g.W.Write.contents l.fn.writer) (l.fn.heap, l.fn.device)
    (g.R.Read.remaining l.reader) (g.W.Write.contents l.writer) l.pieces l.answered (l.heap, l.device) l.left

abbrev pub decreases-loop-left : goal.decreases-loop-left
decreases-loop-left g l = l.left
