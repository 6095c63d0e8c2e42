use Rattle.std.proofs.Common.{◌++◌, take}
use Rattle.std.specs.Prelude.{codes}
use Rattle.std.specs.Io.KnownBytes.{Appends}
use Rattle.jlr_wire.specs.Replies.{spaced}
use Rattle.jlr_wire.proofs.reply.send_names.Given as goal

abbrev pub invariant-loop-name : goal.invariant-loop-name
invariant-loop-name g l = Appends (g.W.Write.contents l.fn.writer) (g.W.Write.contents l.writer)
    (codes "list" ++ spaced (λ name. name) (take l.name-index l.names))
