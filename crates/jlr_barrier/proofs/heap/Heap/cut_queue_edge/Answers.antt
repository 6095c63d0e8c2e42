use Rattle.std.proofs.Common.{arith}
use Rattle.jlr_barrier.proofs.Fitting.{object_within}
use Rattle.jlr_barrier.proofs.Rooting.{cut_fits}
use Rattle.jlr_barrier.proofs.heap.Heap.cut_queue_edge.Goals as goal

pub invariant_of-self : goal.invariant_of-self
invariant_of-self c =
    cut_fits _ _ _ c.shade_ahead.new.marks c.cut_queue.new.self.objects c.args.slot c.self.invariant c.shade_ahead.ensures
    c.cut_queue.ensures.objects (rw (← c.self.view_is) at c.requires.reference) (rw (← c.self.view_is) at c.requires.object)

pub shade_ahead-requires-clause-within : goal.shade_ahead-requires-clause-within
shade_ahead-requires-clause-within c =
    let s = c.self.inside in
    let object = rw (← c.self.view_is) at c.requires.object in
    λ x e. (let here = object_within s.cells.objects x (object x e) in omega (arith, here, c.self.invariant.bits))
