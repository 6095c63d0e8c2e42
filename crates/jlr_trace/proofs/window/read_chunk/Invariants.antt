use Rattle.std.specs.Io.KnownBytes.{Keeps}
use Rattle.jlr_trace.proofs.window.read_chunk.Given as goal

abbrev pub invariant-loop : goal.invariant-loop
invariant-loop g l = Keeps (g.R.Read.remaining l.fn.reader) (g.R.Read.remaining l.reader)
