use Rattle.jlr_laws.proofs.RunLaws.{runs_are_well_formed}
use Rattle.jlr_laws.proofs.laws.runs_from_an_empty_machine_are_well_formed.Goals as goal

pub returns : goal.returns
returns c = runs_are_well_formed
