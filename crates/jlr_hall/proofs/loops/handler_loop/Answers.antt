use Rattle.jlr_hall.specs.Loops.{IsHandlers}
use Rattle.jlr_hall.proofs.Turns.{asks_none}
use Rattle.jlr_hall.proofs.loops.handler_loop.Goals as goal

pub loop-init : goal.loop-init
loop-init g c = asks_none g.L.Limited.limits (IsHandlers g.L.Limited.limits) c.args.seat
