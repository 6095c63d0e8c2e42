use Rattle.jlr_barrier.proofs.Rooting.{joined_fits}
use Rattle.jlr_barrier.proofs.heap.Heap.join.Goals as goal

pub invariant_of-self : goal.invariant_of-self
invariant_of-self c =
    joined_fits _ _ _ c.self.invariant c.join.new.self c.args.mutator c.join.ensures
