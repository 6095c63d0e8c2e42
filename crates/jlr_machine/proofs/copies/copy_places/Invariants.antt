use Rattle.std.proofs.Common.{◌≡◌, take}
use Rattle.jlr_machine.proofs.copies.copy_places.Given as goal

abbrev pub invariant-loop-place : goal.invariant-loop-place
invariant-loop-place l = l.out.items ≡ take l.place-index l.places
