use Rattle.jlr_histories.proofs.Outcomes.{job_runs_until_its_outcome, job_runs_on_until_its_outcome}
use Rattle.jlr_histories.proofs.laws.a_job_runs_until_its_outcome.Goals as goal

pub returns-clause-entry : goal.returns-clause-entry
returns-clause-entry c = job_runs_until_its_outcome

pub returns-clause-run : goal.returns-clause-run
returns-clause-run c = job_runs_on_until_its_outcome
