use Rattle.jlr_histories.proofs.Owing.{end_lowers}
use Rattle.jlr_histories.proofs.ahead.an_end_lowers_what_is_owed.Goals as goal

pub returns : goal.returns
returns c = end_lowers
