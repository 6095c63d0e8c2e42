use Rattle.std.proofs.Common.{◌≡◌, ◌++◌, ◌∷◌, [], sym, ◌∙◌}
use Rattle.std.specs.Prelude.{not, ◌==◌}
use Rattle.jlr_machine.specs.declared.machine.Job.{Job}
use Rattle.jlr_plain_asks.proofs.Steps.{kept_more, left_more, differs, agrees}
use Rattle.jlr_plain_asks.proofs.changes.lists.job_removed.Goals.{then-number+in_ok-push, else-number}
use Rattle.jlr_plain_asks.proofs.changes.lists.job_removed.Goals as goal

pub loop-job-preserved : goal.loop-job-preserved
loop-job-preserved c =
    elim c.if-number.branch [
      | then-number+in_ok-push w ↦ (
          let pushed : c.if-number.out.items ≡ c.loop-job.out.items ++ c.job-item.result ∷ [] =
          let a = w.out-is in let b = w.in_ok-push.ensures.items in cc in
          kept_more (λ (r : Job). not (r.action == c.args.action)) c.args.jobs.now c.loop-job.job-index c.job-item.result
          c.loop-job.out.items c.if-number.out.items c.loop-job-test.true c.job-item.is
          (differs c.job-item.result.action c.args.action (λ e. w.if-number.true (c.number.ensures ∙ e ∙ sym c.number-in-loop-job.ensures)))
          c.loop-job.invariant pushed)
      | else-number w ↦ (
          let same : c.if-number.out.items ≡ c.loop-job.out.items = let a = w.out-is in cc in
          left_more (λ (r : Job). not (r.action == c.args.action)) c.args.jobs.now c.loop-job.job-index c.job-item.result
          c.loop-job.out.items c.if-number.out.items c.loop-job-test.true c.job-item.is
          (agrees c.job-item.result.action c.args.action (sym c.number.ensures ∙ w.if-number.false ∙ c.number-in-loop-job.ensures))
          c.loop-job.invariant same)
    ]
