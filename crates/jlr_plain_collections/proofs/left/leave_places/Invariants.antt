use Rattle.std.proofs.Common.{◌≡◌, ◌++◌, take, drop}
use Rattle.jlr_machine.specs.Collection.{places_left}
use Rattle.jlr_plain_collections.proofs.left.leave_places.Given as goal

abbrev pub invariant-loop-i : goal.invariant-loop-i
invariant-loop-i l = l.places ≡ places_left l.kept l.pending 0 (take l.i l.fn.places) ++ drop l.i l.fn.places
