use Rattle.std.specs.Prelude.{◌≡◌, drop}
use Rattle.jlr_hall.specs.Closing.{is_there}
use Rattle.jlr_hall.proofs.closing.is_there.Given as goal

abbrev pub invariant-loop-seat : goal.invariant-loop-seat
invariant-loop-seat g l = is_there l.k (drop l.seat-index l.seats.items) ≡ is_there l.k l.seats.items
