use Rattle.std.proofs.Common.{◌∷◌, ap}
use Rattle.std.specs.Prelude.{codes}
use Rattle.std.proofs.lemmas.Result.{err_from_is_err_and}
use Rattle.jlr_wire.specs.Replies.{spaced}
use Rattle.jlr_wire.proofs.Sending.{front_first, front_same}
use Rattle.jlr_wire.proofs.Spaced.{spaced_cut}
use Rattle.jlr_wire.proofs.reply.send_names.Goals as goal

pub returns-in_err-send : goal.returns-in_err-send
returns-in_err-send g c =
    let p = err_from_is_err_and c.from_residual.result c.from_residual.ensures.1 in
    rw p.1 (front_first _ _ (codes "list") (spaced (λ name. name) c.args.names.now) c.in_err-send.ensures)

pub returns-in_err-send_name : goal.returns-in_err-send_name
returns-in_err-send_name g c =
    let p = err_from_is_err_and c.from_residual-in_err-send_name.result c.from_residual-in_err-send_name.ensures.1 in
    rw p.1 (spaced_cut (λ name. name) c.args.names.now c.loop-name.name-index c.name-item.result (codes "list") _ _ _
    c.loop-name-test.true c.name-item.is c.loop-name.invariant
    (front_same _ _ _ (32 ∷ c.name-item.result) (ap (λ name. 32 ∷ name) c.as_slice.ensures.bytes) c.in_err-send_name.ensures))
