use Rattle.std.proofs.Common.{◌≡◌, ◌+◌, length-set, subst}
use Rattle.jlr_cells.specs.Contents.{object_of}
use Rattle.jlr_marks.specs.Marking.{Blackened, marked}
use Rattle.jlr_barrier.specs.Graphs.{Known}
use Rattle.jlr_barrier.proofs.Allocating.{allocated_in_hand, blackened, one_more}
use Rattle.jlr_barrier.proofs.heap.Heap.allocate.Goals as goal

pub invariant_of-self-2 : goal.invariant_of-self-2
invariant_of-self-2 c =
    let s = c.self.inside in
    rw c.in_ok-slot.ensures.taken
    (allocated_in_hand _ _ _ c.in_ok-slot.slot (object_of c.args.shape.now) _ c.blacken.new.self c.self.invariant
    c.in_ok-slot.ensures.free.0 c.in_ok-slot.ensures.free.1 (length-set s.last_gets.items c.number.result s.collections)
    c.blacken.ensures.bits c.blacken.ensures.grey c.blacken.ensures.discovered c.blacken.ensures.part
    (rw (← c.self.view_is) at c.requires))

pub returns-clause-black : goal.returns-clause-black
returns-clause-black c =
    subst (λ (k : Known). Blackened c.in_ok-slot.slot k.marking c.blacken.new.self) c.self.view_is
    (blackened _ _ _ c.in_ok-slot.slot c.blacken.new.self c.self.invariant c.in_ok-slot.ensures.free.0 c.blacken.ensures.bits
    c.blacken.ensures.grey c.blacken.ensures.discovered c.blacken.ensures.part)

pub returns-clause-count : goal.returns-clause-count
returns-clause-count c =
    subst (λ (k : Known). marked c.blacken.new.self ≡ marked k.marking + 1) c.self.view_is
    (one_more _ _ _ c.in_ok-slot.slot c.blacken.new.self c.self.invariant c.in_ok-slot.ensures.free.0 c.in_ok-slot.ensures.free.1
    c.blacken.ensures.bits)
