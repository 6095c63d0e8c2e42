use Rattle.jlr_wire.proofs.Unique.{unique}
use Rattle.jlr_wire.proofs.stream.lines_are_unique.Goals as goal

pub returns : goal.returns
returns c = unique
