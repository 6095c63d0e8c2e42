use Rattle.jlr_histories.proofs.Fitting.{answers_fit}
use Rattle.jlr_histories.proofs.ahead.answers_fit.Goals as goal

pub returns : goal.returns
returns c = answers_fit
