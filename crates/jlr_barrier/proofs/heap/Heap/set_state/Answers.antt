use Rattle.jlr_barrier.proofs.Retouching.{another_state}
use Rattle.jlr_barrier.proofs.heap.Heap.set_state.Goals as goal

pub invariant_of-self : goal.invariant_of-self
invariant_of-self c =
    rw c.set_state.ensures.objects
    (another_state _ _ _ c.args.slot c.self.invariant c.args.state (rw (← c.self.view_is) at c.requires.edge)
    (rw (← c.self.view_is) at c.requires.reference))
