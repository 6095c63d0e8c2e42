use Rattle.std.proofs.Common.{◌≡◌, ◌∙◌, None, Some, arith, sym}
use Rattle.jlr_laws.proofs.Frames.{no_some}
use Rattle.jlr_marks.proofs.Shading.{shaded_none}
use Rattle.jlr_barrier.proofs.Fitting.{object_within}
use Rattle.jlr_barrier.proofs.Rooting.{unlinked_fits}
use Rattle.jlr_barrier.proofs.heap.Heap.unlink.Goals as goal

pub invariant_of-self : goal.invariant_of-self
invariant_of-self c =
    let s = c.self.inside in
    unlinked_fits _ _ _ s.marks c.pop_member.new.self.objects c.args.queue None c.self.invariant c.in_err-member.ensures.front
    (shaded_none (λ x. None ≡ Some x) (λ x e. no_some x e) s.marks) c.pop_member.ensures.objects
    (rw (← c.self.view_is) at c.requires.queue) (rw (← c.self.view_is) at c.requires.object)

pub invariant_of-self-2 : goal.invariant_of-self-2
invariant_of-self-2 c =
    unlinked_fits _ _ _ c.shade_target.new.marks c.pop_member.new.self.objects c.args.queue (Some c.in_ok-member.member) c.self.invariant
    c.in_ok-member.ensures.front c.shade_target.ensures c.pop_member.ensures.objects (rw (← c.self.view_is) at c.requires.queue)
    (rw (← c.self.view_is) at c.requires.object)

pub shade_target-requires : goal.shade_target-requires
shade_target-requires c =
    let s = c.self.inside in
    let object = rw (← c.self.view_is) at c.requires.object in
    λ x e. (let here = object_within s.cells.objects x (object x (sym c.in_ok-member.ensures.front ∙ e)) in
    omega (arith, here, c.self.invariant.bits))
