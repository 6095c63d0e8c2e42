use Rattle.std.specs.Int.{w64}
use Rattle.jlr_trace.proofs.Fields.{number}
use Rattle.jlr_trace.proofs.Sections.{image}
use Rattle.jlr_trace.proofs.steady.laws.heads_are_steady.Goals as goal

pub returns-clause-image : goal.returns-clause-image
returns-clause-image c = image

pub returns-clause-count : goal.returns-clause-count
returns-clause-count c = number w64
