use Rattle.jlr_trace_entries.proofs.Placing.{HeldSoFar}
use Rattle.jlr_trace_entries.proofs.places.held_places.Given as goal

abbrev pub invariant-loop-item : goal.invariant-loop-item
invariant-loop-item l = HeldSoFar l.items l.item-index l.places.items
