use Rattle.jlr_barrier.proofs.Ending.{upcoming_grey}
use Rattle.jlr_barrier.proofs.Scanning.{scanned_fits}
use Rattle.jlr_barrier.proofs.heap.Heap.scan.Goals as goal

pub scan_part-requires-clause-marked : goal.scan_part-requires-clause-marked
scan_part-requires-clause-marked c =
    let next = rw (← c.self.view_is) at c.requires.next in
    c.self.invariant.snapshot.grey c.args.slot (upcoming_grey c.self.inside.marks c.self.invariant.started c.args.slot next)

pub scan_part-requires-clause-object : goal.scan_part-requires-clause-object
scan_part-requires-clause-object c =
    let next = rw (← c.self.view_is) at c.requires.next in
    c.self.invariant.objects c.args.slot (c.self.invariant.snapshot.grey c.args.slot
    (upcoming_grey c.self.inside.marks c.self.invariant.started c.args.slot next))

pub invariant_of-self : goal.invariant_of-self
invariant_of-self c = scanned_fits _ _ _ c.args.slot c.scan_part.new.marks c.self.invariant c.scan_part.ensures.scanned
    (rw (← c.self.view_is) at c.requires.objects)
