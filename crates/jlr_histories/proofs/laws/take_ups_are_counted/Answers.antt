use Rattle.jlr_histories.proofs.TakenOnce.{take_ups_are_counted}
use Rattle.jlr_histories.proofs.laws.take_ups_are_counted.Goals as goal

pub returns : goal.returns
returns c = take_ups_are_counted
