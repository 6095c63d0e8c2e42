use Rattle.jlr_histories.proofs.ResourceLaws.{one_resource_an_action, phase_is_its_state}
use Rattle.jlr_histories.proofs.laws.each_action_has_one_resource.Goals as goal

pub returns-clause-one : goal.returns-clause-one
returns-clause-one c = one_resource_an_action

pub returns-clause-phase : goal.returns-clause-phase
returns-clause-phase c = phase_is_its_state
