use Rattle.jlr_hall.proofs.Turns.{finishes}
use Rattle.jlr_hall.proofs.loops.finish.Goals as goal

pub returns : goal.returns
returns g c = λ first h.
    finishes g.R.Resource.handling g.L.Limited.limits c.args.job c.carry_out.result c.ask_once-reply.result c.carry_out.ensures first
    c.args.seat.now c.ask_once-reply.new.self h c.ask_once-reply.ensures.asked
