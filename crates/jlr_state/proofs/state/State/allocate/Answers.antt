use Rattle.std.proofs.Common.{ap}
use Rattle.jlr_cells.specs.Contents.{object_of}
use Rattle.jlr_barrier.specs.Graphs.{Graph}
use Rattle.jlr_state.specs.Machines.{machine_of}
use Rattle.jlr_state.specs.State.{machine_with}
use Rattle.jlr_state.proofs.Hands.{held_in_hand}
use Rattle.jlr_state.proofs.Rooms.{allocates_free}
use Rattle.jlr_state.proofs.state.State.allocate.Goals as goal

pub allocate-requires : goal.allocate-requires
allocate-requires g c = λ s h. held_in_hand c.args.self.now.heap s (c.requires.held s h)

pub returns-in-Some-clause-allocates : goal.returns-in-Some-clause-allocates
returns-in-Some-clause-allocates g c =
    let s = c.args.self.now in
    let made = c.in-Some.ensures in
    allocates_free (machine_of s) (object_of c.args.shape.now) c.args.choice.now c.add_fresh.new.self c.in-Some.slot _
    c.requires.nothing made.free.0 made.free.1 c.add_fresh.ensures
    (ap (λ (h : Graph). machine_with s.cleaner h s.cycle_open) made.made)
