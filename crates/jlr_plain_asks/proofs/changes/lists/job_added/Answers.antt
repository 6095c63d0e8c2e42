use Rattle.std.proofs.Common.{arith, drop, ◌+◌}
use Rattle.jlr_machine.specs.Lookups.{with_job}
use Rattle.jlr_plain_asks.proofs.Steps.{passed_more, job_passed}
use Rattle.jlr_plain_asks.proofs.changes.lists.job_added.Goals as goal

pub loop-i-preserved : goal.loop-i-preserved
loop-i-preserved c =
    passed_more (λ l. with_job l c.args.job) c.args.jobs.now c.loop-i.i c.index-jobs-i.result c.loop-i.out.items
    c.push-in-loop-i.new.self.items _ c.loop-i-test.true c.index-jobs-i.is
    (job_passed c.index-jobs-i.result c.args.job (drop (c.loop-i.i + 1) c.args.jobs.now) (omega arith)) c.loop-i.invariant
    c.in_ok-push-2.ensures.items
