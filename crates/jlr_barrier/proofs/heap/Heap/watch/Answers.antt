use Rattle.jlr_barrier.proofs.Retouching.{now_watching}
use Rattle.jlr_barrier.proofs.heap.Heap.watch.Goals as goal

pub invariant_of-self : goal.invariant_of-self
invariant_of-self c =
    rw c.watch.ensures.objects
    (now_watching _ _ _ c.args.slot c.self.invariant c.args.referent (rw (← c.self.view_is) at c.requires.held)
    (rw (← c.self.view_is) at c.requires.cleanable))
