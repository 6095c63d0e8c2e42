use Rattle.std.proofs.Common.{◌≡◌, ◌+◌, length-set, subst}
use Rattle.std.proofs.lemmas.List.{append-nil}
use Rattle.jlr_machine.specs.declared.object.Object.TheVariants.{Plain}
use Rattle.jlr_machine.specs.declared.object.Contents.TheVariants.{Elements}
use Rattle.jlr_machine.specs.Objects.{◌∈◌}
use Rattle.jlr_machine.specs.Edges.{slots_in}
use Rattle.jlr_marks.specs.Marking.{Blackened, marked}
use Rattle.jlr_barrier.specs.Graphs.{Known}
use Rattle.jlr_barrier.proofs.Allocating.{allocated_in_hand, blackened, one_more}
use Rattle.jlr_barrier.proofs.heap.Heap.allocate_array.Goals as goal

pub invariant_of-self : goal.invariant_of-self
invariant_of-self c =
    let s = c.self.inside in
    rw c.in-Ok.ensures.taken
    (allocated_in_hand _ _ _ c.in-Ok.made (Plain (Elements c.args.elements)) _ c.blacken.new.self c.self.invariant
    c.in-Ok.ensures.free.0 c.in-Ok.ensures.free.1 (length-set s.last_gets.items c.number.result s.collections) c.blacken.ensures.bits
    c.blacken.ensures.grey c.blacken.ensures.discovered c.blacken.ensures.part
    (let held = rw (← c.self.view_is) at c.requires in
    λ y h. held y (subst (λ l. y ∈ l) (append-nil (slots_in (Elements c.args.elements))) h)))

pub returns-in-Ok-clause-black : goal.returns-in-Ok-clause-black
returns-in-Ok-clause-black c =
    subst (λ (k : Known). Blackened c.in-Ok.made k.marking c.blacken.new.self) c.self.view_is
    (blackened _ _ _ c.in-Ok.made c.blacken.new.self c.self.invariant c.in-Ok.ensures.free.0 c.blacken.ensures.bits c.blacken.ensures.grey
    c.blacken.ensures.discovered c.blacken.ensures.part)

pub returns-in-Ok-clause-count : goal.returns-in-Ok-clause-count
returns-in-Ok-clause-count c =
    subst (λ (k : Known). marked c.blacken.new.self ≡ marked k.marking + 1) c.self.view_is
    (one_more _ _ _ c.in-Ok.made c.blacken.new.self c.self.invariant c.in-Ok.ensures.free.0 c.in-Ok.ensures.free.1 c.blacken.ensures.bits)
