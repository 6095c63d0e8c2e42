use Rattle.jlr_histories.proofs.ResourceLaws.{resource_goes_on}
use Rattle.jlr_histories.proofs.laws.a_resource_goes_on.Goals as goal

pub returns : goal.returns
returns c = resource_goes_on
