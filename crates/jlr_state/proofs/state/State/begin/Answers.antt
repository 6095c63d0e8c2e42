use Rattle.std.proofs.Common.{true, sym, subst}
use Rattle.jlr_barrier.specs.Graphs.{Graph}
use Rattle.jlr_sweep.proofs.Kept.{held_object}
use Rattle.jlr_state.specs.Machines.{machine_of}
use Rattle.jlr_state.specs.Marks.{BeginsCycle, MarksReached}
use Rattle.jlr_state.specs.State.{machine_with}
use Rattle.jlr_state.proofs.Frames.{frame_of}
use Rattle.jlr_state.proofs.Roots.{rooted}
use Rattle.jlr_state.proofs.Beginning.{begins_cycle, begins_reached}
use Rattle.jlr_state.proofs.state.State.begin.Goals as goal

pub begin-requires : goal.begin-requires
begin-requires g c =
    let s = c.args.self.now in held_object (frame_of s) s.heap.graph (rooted s.cleaner s.heap.graph s.cycle_open c.requires)

pub returns-clause-reached : goal.returns-clause-reached
returns-clause-reached g c =
    let s = c.args.self.now in
    let new = c.begin.new.heap.marking in
    subst (λ (h : Graph). MarksReached (machine_of s) s.heap.marking (machine_with s.cleaner h true) new) (sym c.begin.ensures.graph)
    (begins_reached s.cleaner s.heap.graph s.cycle_open new c.requires c.begin.ensures.shaded s.heap.marking)

pub returns-clause-begins : goal.returns-clause-begins
returns-clause-begins g c =
    let s = c.args.self.now in
    let new = c.begin.new.heap.marking in
    λ _. subst (λ (h : Graph). BeginsCycle (machine_with s.cleaner h true) new) (sym c.begin.ensures.graph)
    (begins_cycle s.cleaner s.heap.graph s.cycle_open new c.requires c.begin.ensures.shaded)
