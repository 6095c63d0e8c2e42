use Rattle.jlr_laws.proofs.Empty.{place_of}
use Rattle.jlr_barrier.proofs.Rooting.{linked_fits}
use Rattle.jlr_barrier.proofs.heap.Heap.link.Goals as goal

pub push_member-requires-clause-within : goal.push_member-requires-clause-within
push_member-requires-clause-within c = place_of c.self.inside.cells.objects c.args.member (rw (← c.self.view_is) at c.requires.object)

pub invariant_of-self : goal.invariant_of-self
invariant_of-self c = linked_fits _ _ _ c.self.invariant c.push_member.new.self.objects c.args.queue c.args.member
    c.push_member.ensures.objects (rw (← c.self.view_is) at c.requires.queue) (rw (← c.self.view_is) at c.requires.held)
