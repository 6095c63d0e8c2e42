use Rattle.jlr_histories.proofs.Owing.{owed_bounded}
use Rattle.jlr_histories.proofs.ahead.owed_is_bounded.Goals as goal

pub returns : goal.returns
returns c = owed_bounded
