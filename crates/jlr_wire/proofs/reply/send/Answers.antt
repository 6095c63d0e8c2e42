use Rattle.jlr_wire.proofs.Sending.{Appends-keeps, front_of, sent_more}
use Rattle.jlr_wire.proofs.reply.send.Goals as goal

pub loop-rest-preserved : goal.loop-rest-preserved
loop-rest-preserved g c =
    let i = c.loop-rest.invariant in
    rw c.split_at.ensures.back (sent_more _ _ _ c.args.bytes.now i.0 c.loop-rest.rest.now c.in-Ok.n i.1 i.2 c.in-Ok.ensures.bytes)

pub returns-in_default : goal.returns-in_default
returns-in_default g c =
    let i = c.loop-rest.invariant in
    let m = sent_more _ _ _ c.args.bytes.now i.0 c.loop-rest.rest.now c.in-Ok.n i.1 i.2 c.in-Ok.ensures.bytes in
    front_of _ _ m.0 _ c.args.bytes.now m.1 m.2

pub returns-in_default-2 : goal.returns-in_default-2
returns-in_default-2 g c =
    let i = c.loop-rest.invariant in
    front_of _ _ i.0 c.loop-rest.rest.now c.args.bytes.now i.1 (Appends-keeps _ _ _ i.0 i.2 c.in_default.ensures.bytes)
