use Rattle.jlr_histories.proofs.Forward.{enqueued_is_cleared}
use Rattle.jlr_histories.proofs.laws.what_is_enqueued_is_cleared.Goals as goal

pub returns : goal.returns
returns c = enqueued_is_cleared
