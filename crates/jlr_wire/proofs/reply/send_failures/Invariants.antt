use Rattle.std.proofs.Common.{◌++◌, take}
use Rattle.std.specs.Prelude.{codes}
use Rattle.std.specs.Io.KnownBytes.{Appends}
use Rattle.jlr_wire.specs.Replies.{spaced, failure_text}
use Rattle.jlr_wire.proofs.reply.send_failures.Given as goal

abbrev pub invariant-loop-failure : goal.invariant-loop-failure
invariant-loop-failure g l = Appends (g.W.Write.contents l.fn.writer) (g.W.Write.contents l.writer)
    (codes "list" ++ spaced failure_text (take l.failure-index l.failures))
