use Rattle.jlr_histories.proofs.CoreStands.{goes_on_standing}
use Rattle.jlr_histories.proofs.cycles.laws.a_core_goes_on_standing.Goals as goal

pub returns : goal.returns
returns c = goes_on_standing
