use Rattle.std.proofs.Common.{◌≡◌, ◌⊎◌, ◌≤◌, ◌<◌, ◌+◌, ◌*◌, ℕ, Some}
use Rattle.jlr_marks.specs.declared.part.Part.{Part}
use Rattle.jlr_barrier.specs.Parts.{ticks_at}
use Rattle.jlr_marker.specs.Following.{keeps}
use Rattle.jlr_marker.specs.Marks.{Blackening, IsBlackened}
use Rattle.jlr_marker.proofs.Passing.{GoesOn}
use Rattle.jlr_marker.proofs.cycle.follow_grey.Given as goal

abbrev pub invariant-loop-tick : goal.invariant-loop-tick
invariant-loop-tick l = record {
  graph : l.heap.graph ≡ l.fn.heap.graph;
  clock : l.heap.clock ≡ l.fn.heap.clock;
  condemned : l.heap.condemned ≡ l.fn.heap.condemned;
  ticks : l.meter ≡ l.fn.meter + l._tick;
  blackening : Blackening (keeps l.policy l.fn.heap.clock) l.fn.heap.graph.objects l._tick l.fn.heap.marking l.heap.marking;
  on : GoesOn l.fn.heap.marking l.heap.marking;
  each : (x : ℕ) → IsBlackened l.fn.heap.marking l.heap.marking x → ticks_at l.fn.heap.graph.objects x ≤ 64;
  part : (p : Part) → l.heap.marking.part ≡ Some p → (l.fn.heap.marking.part ≡ Some p)
      ⊎ (p.place < 64 * ticks_at l.fn.heap.graph.objects p.slot);
}
