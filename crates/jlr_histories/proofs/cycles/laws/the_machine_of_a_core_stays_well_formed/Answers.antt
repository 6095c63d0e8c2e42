use Rattle.jlr_histories.proofs.CoreStands.{core_stays_well_formed}
use Rattle.jlr_histories.proofs.cycles.laws.the_machine_of_a_core_stays_well_formed.Goals as goal

pub returns : goal.returns
returns c = core_stays_well_formed
