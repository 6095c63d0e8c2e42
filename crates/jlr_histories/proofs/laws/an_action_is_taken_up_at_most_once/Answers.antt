use Rattle.jlr_histories.proofs.TakenOnce.{taken_up_at_most_once}
use Rattle.jlr_histories.proofs.laws.an_action_is_taken_up_at_most_once.Goals as goal

pub returns : goal.returns
returns c = taken_up_at_most_once
