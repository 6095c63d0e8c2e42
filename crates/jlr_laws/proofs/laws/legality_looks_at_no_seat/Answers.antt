use Rattle.jlr_laws.proofs.Seats.{legality_looks_at_no_seat}
use Rattle.jlr_laws.proofs.laws.legality_looks_at_no_seat.Goals as goal

pub returns : goal.returns
returns c = legality_looks_at_no_seat
