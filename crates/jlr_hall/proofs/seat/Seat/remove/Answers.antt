use Rattle.jlr_hall.proofs.Turns.{declines_remove}
use Rattle.jlr_hall.proofs.seat.Seat.remove.Goals as goal

-- nobody can look after the client: the seat declines by itself
pub returns-then-not-begin-clause-asked : goal.returns-then-not-begin-clause-asked
returns-then-not-begin-clause-asked g c = rw c.decline.ensures (declines_remove _ _ _ _)
