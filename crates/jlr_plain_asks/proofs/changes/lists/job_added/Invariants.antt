use Rattle.std.proofs.Common.{◌≡◌, ◌++◌, drop}
use Rattle.jlr_machine.specs.Lookups.{with_job}
use Rattle.jlr_plain_asks.proofs.changes.lists.job_added.Given as goal

abbrev pub invariant-loop-i : goal.invariant-loop-i
invariant-loop-i l = l.out.items ++ with_job (drop l.i l.jobs) l.job ≡ with_job l.jobs l.job
