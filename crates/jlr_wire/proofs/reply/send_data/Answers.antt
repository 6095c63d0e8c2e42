use Rattle.std.proofs.Common.{◌<◌, length, rules}
use Rattle.std.specs.Prelude.{codes}
use Rattle.std.proofs.lemmas.Result.{err_from_is_err_and}
use Rattle.hex.specs.Hex.{encode_lower}
use Rattle.jlr_wire.proofs.Sending.{front_first, front_same, then_sends, sends_same}
use Rattle.jlr_wire.proofs.Data.{some_data}
use Rattle.jlr_wire.proofs.reply.send_data.Goals as goal

pub returns-in_err-send : goal.returns-in_err-send
returns-in_err-send g c =
    let p = err_from_is_err_and c.from_residual.result c.from_residual.ensures.1 in
    let some : 0 < length c.args.bytes.now = search rules in
    rw p.1 (front_same _ _ _ _ (some_data c.args.bytes.now some)
    (front_first _ _ (codes "data ") (encode_lower c.args.bytes.now) c.in_err-send.ensures))

pub returns : goal.returns
returns g c =
    let some : 0 < length c.args.bytes.now = search rules in
    sends_same _ _ c.send_digits.result _ _ (some_data c.args.bytes.now some)
    (then_sends _ _ _ c.send_digits.result (codes "data ") (encode_lower c.args.bytes.now) c.in_ok-send.ensures c.send_digits.ensures)
