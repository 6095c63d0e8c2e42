use Rattle.std.proofs.Common.{subst}
use Rattle.jlr_log.specs.Seeing.{Seen}
use Rattle.jlr_hall.specs.declared.step.Step.{Step}
use Rattle.jlr_hall.specs.Asking.{AskedIn}
use Rattle.jlr_hall.specs.Locking.{Under}
use Rattle.jlr_hall.proofs.seat.Seat.ask_under.Goals as goal

pub returns-clause-asked : goal.returns-clause-asked
returns-clause-asked g c =
    subst (λ (x : Under g.row.R.Denot × Seen (Step g.row.R.Denot)). AskedIn g.L.Limited.limits (x.0).log x.1 c.args.event c.ask-reply.result
    c.ask-reply.new.pass)
    (λ i. (c.deref_mut.ensures.value i, c.self.view_is i)) c.ask-reply.ensures.asked
