use Rattle.std.proofs.Common.{refl}
use Rattle.jlr_barrier.proofs.Fitting.{popped_pending}
use Rattle.jlr_barrier.proofs.heap.Heap.take_pending.Goals as goal

pub invariant_of-self : goal.invariant_of-self
invariant_of-self c = popped_pending _ c.self.inside.lists.lists c.take_front.new.self.lists _ _ c.self.invariant c.take_front.ensures.slots
    refl c.take_front.ensures.lists
