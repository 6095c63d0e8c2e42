use Rattle.jlr_histories.proofs.ResourceLaws.{calls_find_their_resources_idle, jobs_find_their_resources_idle}
use Rattle.jlr_histories.proofs.laws.resources_are_handed_out_idle.Goals as goal

pub returns-clause-calls : goal.returns-clause-calls
returns-clause-calls c = calls_find_their_resources_idle

pub returns-clause-jobs : goal.returns-clause-jobs
returns-clause-jobs c = jobs_find_their_resources_idle
