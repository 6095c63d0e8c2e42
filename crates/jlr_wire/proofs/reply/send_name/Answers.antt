use Rattle.std.proofs.Common.{◌∷◌, []}
use Rattle.jlr_wire.proofs.Sending.{then_sends}
use Rattle.jlr_wire.proofs.reply.send_name.Goals as goal

pub returns : goal.returns
returns g c = then_sends _ _ _ c.send-2.result (32 ∷ []) c.args.name.now c.in_ok-send.ensures c.send-2.ensures
