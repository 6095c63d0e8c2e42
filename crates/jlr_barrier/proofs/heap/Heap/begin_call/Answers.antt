use Rattle.jlr_barrier.proofs.Rooting.{called_fits}
use Rattle.jlr_barrier.proofs.heap.Heap.begin_call.Goals as goal

pub invariant_of-self : goal.invariant_of-self
invariant_of-self c =
    called_fits _ _ _ c.self.invariant c.begin_call.new.self c.args.mutator c.args.fence c.args.call c.begin_call.ensures
    (rw (← c.self.view_is) at c.requires.held)
