use Rattle.jlr_histories.proofs.Marking.{goes_on_marking}
use Rattle.jlr_histories.proofs.cycles.laws.a_marking_core_goes_on_standing.Goals as goal

pub returns : goal.returns
returns c = goes_on_marking
