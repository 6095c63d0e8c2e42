use Rattle.std.proofs.Common.{◌≡◌, length}
use Rattle.jlr_refs.proofs.TakingUp.{IsShorter}
use Rattle.jlr_refs.proofs.cleanables.take_lined.Given as goal

abbrev pub invariant-loop-slot : goal.invariant-loop-slot
invariant-loop-slot l = record {
  shorter : IsShorter l.fn.heap.graph l.heap.graph;
  clock : l.heap.clock ≡ l.fn.heap.clock;
  marking : l.heap.marking ≡ l.fn.heap.marking;
}

-- what still stands in the line
abbrev pub decreases-loop-slot : goal.decreases-loop-slot
decreases-loop-slot l = length l.heap.graph.line
