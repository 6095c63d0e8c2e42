use Rattle.jlr_machine.specs.Objects.{at, with_cleanable}
use Rattle.jlr_machine.specs.Refusals.{is_cleanable}
use Rattle.jlr_machine.specs.Calls.{spent}
use Rattle.jlr_barrier.proofs.Changing.{retouched_object, there_is}
use Rattle.jlr_barrier.proofs.Retouching.{spent_retouches}
use Rattle.jlr_barrier.proofs.heap.Heap.spend.Goals as goal

pub invariant_of-self : goal.invariant_of-self
invariant_of-self c =
    let s = c.self.inside in
    rw c.spend.ensures.objects
    (retouched_object _ _ _ c.args.slot (with_cleanable spent) c.self.invariant spent_retouches
    (there_is is_cleanable (at s.cells.objects c.args.slot) (rw (← c.self.view_is) at c.requires)))
