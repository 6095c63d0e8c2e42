use Rattle.std.proofs.Common.{◌≡◌, ◌+◌, refl, sym, subst, ap, ◌∙◌, arith}
use Rattle.jlr_machine.specs.Choices.{Choosing}
use Rattle.jlr_barrier.specs.Graphs.{Graph}
use Rattle.jlr_state.specs.Machines.{machine_of}
use Rattle.jlr_state.specs.Collecting.{FindsNoRoom}
use Rattle.jlr_state.specs.State.{machine_with}
use Rattle.jlr_state.proofs.Rooms.{finds_no_room}
use Rattle.jlr_marks.specs.Marking.{Blackened, Marking, marked}
use Rattle.jlr_state.proofs.state.State.collect_and_allocate_array.Goals as goal

pub returns-in_default-clause-full : goal.returns-in_default-clause-full
returns-in_default-clause-full g c = (
  refl,
  subst (λ (h : Graph). FindsNoRoom (machine_of c.args.self.now) 1 c.collect_when_full.new.choice
      (machine_with c.collect_when_full.new.self.cleaner h c.collect_when_full.new.self.cycle_open)) (sym c.in_default.ensures.back.1)
      (finds_no_room (machine_of c.args.self.now) 1 c.args.choice.now c.collect_when_full.new.choice
      (machine_of c.collect_when_full.new.self) c.collect_when_full.ensures.made (omega (arith, c.in_default.ensures.full.0 refl))),
)

-- the elements refer to nothing
pub allocate_array-requires : goal.allocate_array-requires
allocate_array-requires g c = λ s h. absurd (c.requires.null s h)

-- where no collection was made, all else is as before
pub returns-clause-one : goal.returns-clause-one
returns-clause-one g c =
    λ none.
    let same = c.collect_when_full.ensures.marks (ap (λ (x : Choosing). x.chosen.collected) (sym c.add_fresh.ensures) ∙ none) in
    subst (λ (k : Marking). Blackened c.in-Ok.slot k c.allocate_array.new.self.marking
    × (marked c.allocate_array.new.self.marking ≡ marked k + 1)) same (c.in-Ok.ensures.black, c.in-Ok.ensures.count)
