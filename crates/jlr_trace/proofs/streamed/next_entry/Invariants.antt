use Rattle.std.specs.Io.KnownBytes.{Keeps}
use Rattle.jlr_trace.specs.Streams.{known}
use Rattle.jlr_trace.proofs.streamed.next_entry.Given as goal

abbrev pub invariant-loop : goal.invariant-loop
invariant-loop g l = Keeps (known l.fn.window) (known l.window)
