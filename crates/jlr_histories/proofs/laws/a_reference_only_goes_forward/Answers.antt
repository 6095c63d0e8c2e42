use Rattle.jlr_histories.proofs.Forward.{reference_goes_forward}
use Rattle.jlr_histories.proofs.laws.a_reference_only_goes_forward.Goals as goal

pub returns : goal.returns
returns c = reference_goes_forward
