use Rattle.std.proofs.lemmas.Result.{err_from_is_err_and}
use Rattle.jlr_wire.specs.Replies.{spaced}
use Rattle.jlr_wire.proofs.Sending.{front_first, front_same}
use Rattle.jlr_wire.proofs.Spaced.{spaced_cut}
use Rattle.jlr_wire.proofs.reply.send_list.Goals as goal

pub returns-in_err-send : goal.returns-in_err-send
returns-in_err-send g c =
    let p = err_from_is_err_and c.from_residual.result c.from_residual.ensures.1 in
    rw p.1 (front_first _ _ c.args.word.now (spaced g.N.Integer.text c.args.numbers.now)
    (front_same _ _ _ c.args.word.now c.as_bytes.ensures.value c.in_err-send.ensures))

pub returns-in_err-send_after : goal.returns-in_err-send_after
returns-in_err-send_after g c =
    let p = err_from_is_err_and c.from_residual-in_err-send_after.result c.from_residual-in_err-send_after.ensures.1 in
    rw p.1 (spaced_cut g.N.Integer.text c.args.numbers.now c.loop-number.number-index c.number-item.result c.args.word.now _ _ _
    c.loop-number-test.true c.number-item.is c.loop-number.invariant c.in_err-send_after.ensures)
