use Rattle.std.proofs.Common.{◌<◌, length}
use Rattle.jlr_session.specs.Limits.{most_lines}
use Rattle.jlr_session.proofs.Taking.{Taken}
use Rattle.jlr_session.proofs.shell.take_chunk.Given as goal

abbrev pub invariant-loop-rest : goal.invariant-loop-rest
invariant-loop-rest g l = (l.answered < most_lines)
    × Taken g.C.CarryOut.carries l.fn.pieces l.fn.answered (l.fn.heap, l.fn.device) (g.W.Write.contents l.fn.writer) l.chunk l.rest l.pieces
    l.answered (l.heap, l.device) (g.W.Write.contents l.writer)

abbrev pub decreases-loop-rest : goal.decreases-loop-rest
decreases-loop-rest g l = length l.rest
