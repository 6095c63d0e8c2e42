use Rattle.jlr_histories.proofs.Outcomes.{take_up_has_one_outcome_or_runs}
use Rattle.jlr_histories.proofs.laws.each_take_up_has_one_outcome_or_runs.Goals as goal

pub returns : goal.returns
returns c = take_up_has_one_outcome_or_runs
