use Rattle.std.proofs.lemmas.Result.{err_from_is_err_and}
use Rattle.jlr_wire.proofs.Sending.{then_sends, front_first, front_same, appends_same, sends_same}
use Rattle.jlr_wire.proofs.reply.send_both.Goals as goal

pub returns-in_err-send : goal.returns-in_err-send
returns-in_err-send g c =
    let p = err_from_is_err_and c.from_residual.result c.from_residual.ensures.1 in
    rw p.1 (front_first _ _ c.args.text.now c.args.more.now
    (front_same _ _ _ c.args.text.now c.as_bytes.ensures.value c.in_err-send.ensures))

pub returns : goal.returns
returns g c =
    then_sends _ _ _ c.send-2.result c.args.text.now c.args.more.now
    (appends_same _ _ _ c.args.text.now c.as_bytes.ensures.value c.in_ok-send.ensures)
    (sends_same _ _ c.send-2.result _ c.args.more.now c.as_bytes-2.ensures.value c.send-2.ensures)
