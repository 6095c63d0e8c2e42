use Rattle.jlr_barrier.proofs.Retouching.{another_clean_state}
use Rattle.jlr_barrier.proofs.heap.Heap.set_clean_state.Goals as goal

pub invariant_of-self : goal.invariant_of-self
invariant_of-self c =
    rw c.set_clean_state.ensures.objects
    (another_clean_state _ _ _ c.args.slot c.self.invariant c.args.state (rw (← c.self.view_is) at c.requires.root)
    (rw (← c.self.view_is) at c.requires.cleanable))
