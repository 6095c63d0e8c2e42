use Rattle.jlr_hall.proofs.Turns.{same_seat}
use Rattle.jlr_hall.proofs.port.SeatPort.remove.Goals as goal

pub returns-clause-named : goal.returns-clause-named
returns-clause-named g c = rw (← c.self.view_is) (same_seat _ _ _ _ _ c.remove.ensures.asked)
