use Rattle.jlr_barrier.proofs.Rooting.{unbound_fits}
use Rattle.jlr_barrier.proofs.heap.Heap.unbind.Goals as goal

pub invariant_of-self : goal.invariant_of-self
invariant_of-self c =
    unbound_fits _ _ _ c.self.invariant c.unbind.new.self c.args.name.now c.unbind.ensures
