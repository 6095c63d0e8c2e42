use Rattle.std.proofs.Common.{refl}
use Rattle.jlr_barrier.proofs.Fitting.{pushed_pending, in_no_list}
use Rattle.jlr_barrier.proofs.heap.Heap.add_pending.Goals as goal

pub append-requires-clause-apart : goal.append-requires-clause-apart
append-requires-clause-apart c =
    in_no_list c.self.inside.lists.lists c.args.slot c.self.invariant.two (rw (← c.self.view_is) at c.requires.pending)
    (rw (← c.self.view_is) at c.requires.line)

pub invariant_of-self : goal.invariant_of-self
invariant_of-self c =
    pushed_pending _ c.self.inside.lists.lists c.append.new.self.lists c.args.slot _ _ c.self.invariant
    (rw (← c.self.view_is) at c.requires.held) c.append.ensures.slots refl c.append.ensures.lists
