use Rattle.jlr_machine.specs.Objects.{at, with_reference}
use Rattle.jlr_machine.specs.Refusals.{is_reference}
use Rattle.jlr_machine.specs.Calls.{unreferred}
use Rattle.jlr_barrier.proofs.Changing.{retouched_object, there_is}
use Rattle.jlr_barrier.proofs.Retouching.{unreferred_retouches}
use Rattle.jlr_barrier.proofs.heap.Heap.lose_referent.Goals as goal

pub invariant_of-self : goal.invariant_of-self
invariant_of-self c =
    let s = c.self.inside in
    rw c.clear_referent.ensures.objects
    (retouched_object _ _ _ c.args.slot (with_reference unreferred) c.self.invariant unreferred_retouches
    (there_is is_reference (at s.cells.objects c.args.slot) (rw (← c.self.view_is) at c.requires)))
