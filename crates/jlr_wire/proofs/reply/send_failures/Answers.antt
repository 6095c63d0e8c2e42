use Rattle.std.specs.Prelude.{codes}
use Rattle.std.proofs.lemmas.Result.{err_from_is_err_and}
use Rattle.jlr_wire.specs.Replies.{spaced, failure_text}
use Rattle.jlr_wire.proofs.Sending.{front_first}
use Rattle.jlr_wire.proofs.Spaced.{spaced_cut}
use Rattle.jlr_wire.proofs.reply.send_failures.Goals as goal

pub returns-in_err-send : goal.returns-in_err-send
returns-in_err-send g c =
    let p = err_from_is_err_and c.from_residual.result c.from_residual.ensures.1 in
    rw p.1 (front_first _ _ (codes "list") (spaced failure_text c.args.failures.now) c.in_err-send.ensures)

pub returns-in_err-send_failure : goal.returns-in_err-send_failure
returns-in_err-send_failure g c =
    let p = err_from_is_err_and c.from_residual-in_err-send_failure.result c.from_residual-in_err-send_failure.ensures.1 in
    rw p.1 (spaced_cut failure_text c.args.failures.now c.loop-failure.failure-index c.failure-item.result (codes "list") _ _ _
    c.loop-failure-test.true c.failure-item.is c.loop-failure.invariant c.in_err-send_failure.ensures)
