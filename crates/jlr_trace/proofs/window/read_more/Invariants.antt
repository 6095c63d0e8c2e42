use Rattle.std.proofs.Common.{◌<◌, length}
use Rattle.jlr_trace.proofs.Windows.{HasRead}
use Rattle.jlr_trace.proofs.window.read_more.Given as goal

abbrev pub invariant-loop : goal.invariant-loop
invariant-loop g l = record {
  room : 0 < length l.chunk;
  so_far : HasRead l.fn.bytes.items (g.R.Read.remaining l.fn.reader) l.bytes.items (g.R.Read.remaining l.reader);
}
