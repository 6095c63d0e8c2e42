use Rattle.jlr_histories.proofs.Promises.{runs_keep_the_promises}
use Rattle.jlr_histories.proofs.laws.a_run_keeps_the_promises.Goals as goal

pub returns : goal.returns
returns c = runs_keep_the_promises
