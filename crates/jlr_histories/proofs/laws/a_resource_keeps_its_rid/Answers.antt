use Rattle.jlr_histories.proofs.ResourceLaws.{resource_keeps_its_rid}
use Rattle.jlr_histories.proofs.laws.a_resource_keeps_its_rid.Goals as goal

pub returns : goal.returns
returns c = resource_keeps_its_rid
