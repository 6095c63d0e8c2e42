use Rattle.jlr_barrier.proofs.Rooting.{dropped_fits}
use Rattle.jlr_barrier.proofs.heap.Heap.drop_handle.Goals as goal

pub invariant_of-self : goal.invariant_of-self
invariant_of-self c =
    dropped_fits _ _ _ c.self.invariant c.drop_handle.new.self c.args.mutator c.args.handle c.drop_handle.ensures
