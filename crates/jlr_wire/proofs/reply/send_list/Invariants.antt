use Rattle.std.proofs.Common.{◌++◌, take}
use Rattle.std.specs.Io.KnownBytes.{Appends}
use Rattle.jlr_wire.specs.Replies.{spaced}
use Rattle.jlr_wire.proofs.reply.send_list.Given as goal

abbrev pub invariant-loop-number : goal.invariant-loop-number
invariant-loop-number g l = Appends (g.W.Write.contents l.fn.writer) (g.W.Write.contents l.writer)
    (l.word ++ spaced g.N.Integer.text (take l.number-index l.numbers))
