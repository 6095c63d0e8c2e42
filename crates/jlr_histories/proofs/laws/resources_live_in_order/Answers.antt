use Rattle.jlr_histories.proofs.ResourceLaws.{resource_lives_in_order, resource_lives_in_runs}
use Rattle.jlr_histories.proofs.laws.resources_live_in_order.Goals as goal

pub returns-clause-runs : goal.returns-clause-runs
returns-clause-runs c = resource_lives_in_order

pub returns-clause-from_empty : goal.returns-clause-from_empty
returns-clause-from_empty c = resource_lives_in_runs
