use Rattle.std.proofs.Common.{[]}
use Rattle.jlr_wire.specs.Lines.{nothing_held}
use Rattle.jlr_wire.proofs.Streams.{reads_calls, reads_none}
use Rattle.jlr_wire.proofs.stream.cuts_do_not_matter.Goals as goal

pub returns : goal.returns
returns c = λ calls follow. reads_calls calls [] [] nothing_held reads_none follow
