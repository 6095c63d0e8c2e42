use Rattle.jlr_barrier.proofs.Removing.{removed_fits}
use Rattle.jlr_barrier.proofs.heap.Heap.keep_marked.Goals as goal

pub invariant_of-self : goal.invariant_of-self
invariant_of-self c =
    rw (c.keep_only.ensures.objects, c.marked.ensures)
    (removed_fits _ _ _ c.self.invariant (rw (← c.self.view_is) at c.requires.no_grey))
