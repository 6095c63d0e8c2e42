use Rattle.std.proofs.Common.{◌≡◌, take}
use Rattle.jlr_machine.specs.Lookups.{without_job}
use Rattle.jlr_plain_asks.proofs.changes.lists.job_removed.Given as goal

abbrev pub invariant-loop-job : goal.invariant-loop-job
invariant-loop-job l = l.out.items ≡ without_job (take l.job-index l.jobs) l.action
