use Rattle.std.proofs.Common.{rules, arith}
use Rattle.jlr_wire.proofs.Cuts.{take_room}
use Rattle.jlr_wire.proofs.pieces.hold.Goals as goal

pub returns : goal.returns
returns c =
    let room = take_room c.args.held.now.items c.args.bytes.now c.remaining_capacity-room.result (search rules) in
    grind (arith, room)
