use Rattle.jlr_trace.proofs.Sections.{entry}
use Rattle.jlr_trace.proofs.steady.laws.entries_are_steady.Goals as goal

pub returns : goal.returns
returns c = entry
