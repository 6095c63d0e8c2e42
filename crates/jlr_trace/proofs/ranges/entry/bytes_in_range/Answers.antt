use Rattle.std.proofs.Common.{arith}
use Rattle.jlr_trace.proofs.ranges.entry.bytes_in_range.Goals as goal

pub returns : goal.returns
returns c = λ i. omega (arith, c.type_inv.bytes i)
