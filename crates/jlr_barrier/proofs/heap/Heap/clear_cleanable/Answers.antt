use Rattle.jlr_machine.specs.Objects.{at, with_cleanable}
use Rattle.jlr_machine.specs.Refusals.{is_cleanable}
use Rattle.jlr_cells.specs.Contents.{cleanable_without_referent}
use Rattle.jlr_barrier.proofs.Changing.{retouched_object, there_is}
use Rattle.jlr_barrier.proofs.Retouching.{without_referent_retouches}
use Rattle.jlr_barrier.proofs.heap.Heap.clear_cleanable.Goals as goal

pub invariant_of-self : goal.invariant_of-self
invariant_of-self c =
    let s = c.self.inside in
    rw c.clear_cleanable.ensures.objects
    (retouched_object _ _ _ c.args.slot (with_cleanable cleanable_without_referent) c.self.invariant without_referent_retouches
    (there_is is_cleanable (at s.cells.objects c.args.slot) (rw (← c.self.view_is) at c.requires)))
