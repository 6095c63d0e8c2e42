use Rattle.jlr_hall.proofs.Turns.{declines_remove}
use Rattle.jlr_hall.proofs.seat.Seat.remove_under.Goals as goal

-- the client is gone: the seat declines by itself
pub returns-then-is_gone-clause-asked : goal.returns-then-is_gone-clause-asked
returns-then-is_gone-clause-asked g c = rw c.decline.ensures (declines_remove _ _ _ _)
