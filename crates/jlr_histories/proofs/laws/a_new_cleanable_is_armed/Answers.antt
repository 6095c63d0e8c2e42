use Rattle.jlr_histories.proofs.Forward.{new_is_armed}
use Rattle.jlr_histories.proofs.laws.a_new_cleanable_is_armed.Goals as goal

pub returns : goal.returns
returns c = new_is_armed
