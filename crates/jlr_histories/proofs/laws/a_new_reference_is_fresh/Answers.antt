use Rattle.jlr_histories.proofs.Forward.{new_is_fresh}
use Rattle.jlr_histories.proofs.laws.a_new_reference_is_fresh.Goals as goal

pub returns : goal.returns
returns c = new_is_fresh
