use Rattle.jlr_barrier.proofs.Rooting.{handle_fits}
use Rattle.jlr_barrier.proofs.heap.Heap.put_handle.Goals as goal

pub invariant_of-self : goal.invariant_of-self
invariant_of-self c =
    handle_fits _ _ _ c.self.invariant c.put_handle.result c.put_handle.new.self c.args.mutator c.args.slot c.put_handle.ensures.none
    c.put_handle.ensures.held (rw (← c.self.view_is) at c.requires.held)
