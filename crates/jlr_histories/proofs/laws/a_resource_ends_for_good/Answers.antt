use Rattle.jlr_histories.proofs.ResourceLaws.{over_is_over}
use Rattle.jlr_histories.proofs.laws.a_resource_ends_for_good.Goals as goal

pub returns : goal.returns
returns c = over_is_over
