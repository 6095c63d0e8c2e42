use Rattle.std.proofs.Common.{◌∙◌, arith, sym}
use Rattle.jlr_barrier.proofs.Fitting.{object_within}
use Rattle.jlr_barrier.proofs.Rooting.{ended_fits}
use Rattle.jlr_barrier.proofs.heap.Heap.end_call.Goals as goal

pub invariant_of-self : goal.invariant_of-self
invariant_of-self c =
    ended_fits _ _ _ c.shade_target.new.marks c.end_call.new.self c.args.mutator c.fence.result c.self.invariant c.fence.ensures
    c.shade_target.ensures c.end_call.ensures (rw (← c.self.view_is) at c.requires.object)

pub shade_target-requires : goal.shade_target-requires
shade_target-requires c =
    let s = c.self.inside in
    let object = rw (← c.self.view_is) at c.requires.object in
    λ x e. (let here = object_within s.cells.objects x (object x (sym c.fence.ensures ∙ e)) in omega (arith, here, c.self.invariant.bits))
