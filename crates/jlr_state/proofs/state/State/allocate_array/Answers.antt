use Rattle.std.proofs.Common.{ap}
use Rattle.jlr_machine.specs.declared.object.Contents.TheVariants.{Elements as ElementsOf}
use Rattle.jlr_machine.specs.declared.object.Object.TheVariants.{Plain}
use Rattle.jlr_barrier.specs.Graphs.{Graph}
use Rattle.jlr_state.specs.Machines.{machine_of}
use Rattle.jlr_state.specs.State.{machine_with}
use Rattle.jlr_state.proofs.Rooms.{allocates_free}
use Rattle.jlr_state.proofs.state.State.allocate_array.Goals as goal

-- the elements refer to nothing
pub allocate_array-requires : goal.allocate_array-requires
allocate_array-requires g c = λ s h. absurd (c.requires.null s h)

pub returns-in-Ok-clause-allocates : goal.returns-in-Ok-clause-allocates
returns-in-Ok-clause-allocates g c =
    let s = c.args.self.now in
    let made = c.in-Ok.ensures in
    allocates_free (machine_of s) (Plain (ElementsOf c.args.elements)) c.args.choice.now c.add_fresh.new.self c.in-Ok.slot _
    c.requires.nothing made.free.0 made.free.1 c.add_fresh.ensures
    (ap (λ (h : Graph). machine_with s.cleaner h s.cycle_open) made.made)
