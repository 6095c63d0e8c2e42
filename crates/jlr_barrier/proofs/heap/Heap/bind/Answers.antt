use Rattle.jlr_barrier.proofs.Rooting.{bound_or_same_fits}
use Rattle.jlr_barrier.proofs.heap.Heap.bind.Goals as goal

pub invariant_of-self : goal.invariant_of-self
invariant_of-self c =
    bound_or_same_fits _ _ _ c.self.invariant _ c.bind.result c.bind.new.self c.args.name.now c.args.slot c.bind.ensures.ok
    c.bind.ensures.err
    (rw (← c.self.view_is) at c.requires.held)
