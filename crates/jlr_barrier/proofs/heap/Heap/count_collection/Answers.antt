use Rattle.jlr_barrier.proofs.Fitting.{other_clock}
use Rattle.std.proofs.Common.{refl}
use Rattle.jlr_barrier.proofs.heap.Heap.count_collection.Goals as goal

pub invariant_of-self : goal.invariant_of-self
invariant_of-self c =
    other_clock _ _ _ _ c.self.invariant refl
