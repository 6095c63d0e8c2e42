use Rattle.jlr_histories.proofs.Outcomes.{take_up_begins_its_job}
use Rattle.jlr_histories.proofs.laws.a_take_up_begins_its_job.Goals as goal

pub returns : goal.returns
returns c = take_up_begins_its_job
