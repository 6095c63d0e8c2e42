use Rattle.jlr_histories.proofs.Forward.{cleanable_goes_forward}
use Rattle.jlr_histories.proofs.laws.a_cleanable_only_goes_forward.Goals as goal

pub returns : goal.returns
returns c = cleanable_goes_forward
