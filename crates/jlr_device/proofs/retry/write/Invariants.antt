use Rattle.std.specs.Io.KnownBytes.{Keeps}
use Rattle.jlr_device.proofs.retry.write.Given as goal

-- an interrupted write adds nothing
abbrev pub invariant-loop : goal.invariant-loop
invariant-loop g l = Keeps (g.W.Write.contents l.initial.writer) (g.W.Write.contents l.writer)
