use Rattle.std.proofs.Common.{◌≡◌, ◌+◌, ◌-◌, length}
use Rattle.jlr_barrier.specs.Graphs.{held}
use Rattle.jlr_marker.specs.Following.{keeps}
use Rattle.jlr_marker.specs.Spending.{ticks_spent, ticks_for}
use Rattle.jlr_marker.proofs.Whole.{IsMarking}
use Rattle.jlr_sweep.proofs.mark.mark.Given as goal

abbrev pub invariant-loop-slot : goal.invariant-loop-slot
invariant-loop-slot l = record {
  marking : IsMarking (keeps l.policy l.fn.heap.clock) l.fn.heap.graph.objects (held l.fn.heap.graph) (length l.fn.heap.graph.objects)
      l.heap.marking;
  graph : l.heap.graph ≡ l.fn.heap.graph;
  clock : l.heap.clock ≡ l.fn.heap.clock;
  long : length l.heap.marking.bits ≡ length l.fn.heap.graph.objects;
  ticks : l.meter ≡ l.fn.meter + ticks_spent l.fn.heap.graph.objects l.heap.marking;
}

-- the ticks that are left
abbrev pub decreases-loop-slot : goal.decreases-loop-slot
decreases-loop-slot l = ticks_for l.fn.heap.graph.objects - ticks_spent l.fn.heap.graph.objects l.heap.marking
