use Rattle.jlr_histories.proofs.Outcomes.{outcomes_are_recorded}
use Rattle.jlr_histories.proofs.laws.outcomes_are_recorded.Goals as goal

pub returns : goal.returns
returns c = outcomes_are_recorded
