use Rattle.jlr_laws.proofs.Seats.{any_seat_leaves_the_same}
use Rattle.jlr_laws.proofs.laws.any_seat_leaves_the_same.Goals as goal

pub returns : goal.returns
returns c = any_seat_leaves_the_same
