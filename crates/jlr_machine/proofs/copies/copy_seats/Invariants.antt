use Rattle.std.proofs.Common.{◌≡◌, take}
use Rattle.jlr_machine.proofs.copies.copy_seats.Given as goal

abbrev pub invariant-loop-seat : goal.invariant-loop-seat
invariant-loop-seat l = l.out.items ≡ take l.seat-index l.seats
