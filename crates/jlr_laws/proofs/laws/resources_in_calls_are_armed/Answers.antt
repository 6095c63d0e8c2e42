use Rattle.jlr_laws.proofs.RunLaws.{resources_in_calls_are_armed}
use Rattle.jlr_laws.proofs.laws.resources_in_calls_are_armed.Goals as goal

pub returns : goal.returns
returns c = resources_in_calls_are_armed
