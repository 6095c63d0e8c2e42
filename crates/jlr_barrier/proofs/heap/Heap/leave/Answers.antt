use Rattle.jlr_barrier.proofs.Rooting.{left_fits}
use Rattle.jlr_barrier.proofs.heap.Heap.leave.Goals as goal

pub invariant_of-self : goal.invariant_of-self
invariant_of-self c =
    left_fits _ _ _ c.self.invariant c.leave.new.self c.args.mutator c.leave.ensures
