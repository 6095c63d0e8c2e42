use Rattle.jlr_barrier.proofs.Changing.{more_marks}
use Rattle.std.proofs.Common.{◌≡◌, Some, subst}
use Rattle.jlr_barrier.specs.Snapshots.{IsObject}
use Rattle.jlr_laws.proofs.Frames.{some_same}
use Rattle.jlr_barrier.proofs.heap.Heap.shade.Goals as goal

pub invariant_of-self : goal.invariant_of-self
invariant_of-self c =
    let s = c.self.inside in
    more_marks (λ x. Some c.args.slot ≡ Some x) _ _ _ c.shade_target.new.marks c.self.invariant
    (λ x e. subst (IsObject s.cells.objects) (some_same c.args.slot x e) (rw (← c.self.view_is) at c.requires)) c.shade_target.ensures
