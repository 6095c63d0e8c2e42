use Rattle.std.proofs.Common.{◌≡◌, ◌≤◌, ℕ, List, length}
use Rattle.std.specs.Prelude.{drop}
use Rattle.jlr_process.specs.Settling.{SettlesSlots}
use Rattle.jlr_process.proofs.collection.settle_discovered.Given as goal

-- the last of what was discovered are settled
abbrev pub invariant-loop-place : goal.invariant-loop-place
invariant-loop-place l = record {
  clears : (lost : List ℕ) × SettlesSlots l.fn.heap.marking (drop l.place l.fn.heap.marking.discovered) l.fn.heap.graph l.fn.choice lost
      l.heap.graph l.choice;
  clock : l.heap.clock ≡ l.fn.heap.clock;
  marking : l.heap.marking ≡ l.fn.heap.marking;
  condemned : l.heap.condemned ≡ l.fn.heap.condemned;
  place : l.place ≤ length l.fn.heap.marking.discovered;
}

abbrev pub decreases-loop-place : goal.decreases-loop-place
decreases-loop-place l = l.place
