use Rattle.std.proofs.Common.{◌≡◌, drop, find}
use Rattle.std.specs.Prelude.{◌==◌}
use Rattle.jlr_machine.specs.Lookups.{job_of}
use Rattle.jlr_plain_asks.proofs.lookups.running_job.Given as goal

abbrev pub invariant-loop-job : goal.invariant-loop-job
invariant-loop-job l = find (λ job. job.action == l.action) (drop l.job-index l.job-items) ≡ job_of l.machine l.action
