use Rattle.jlr_hall.proofs.Turns.{same_seat}
use Rattle.jlr_hall.proofs.port.SeatPort.ask_once.Goals as goal

pub returns-clause-named : goal.returns-clause-named
returns-clause-named g c = rw (← c.self.view_is) (same_seat _ _ _ _ _ c.ask_once.ensures.asked)
