use Rattle.std.proofs.Common.{◌≡◌, ◌+◌, refl, sym, subst, ap, ◌∙◌, arith}
use Rattle.jlr_machine.specs.Choices.{Choosing}
use Rattle.jlr_machine.specs.Objects.{◌∈◌}
use Rattle.jlr_roots.specs.Walk.{slots_held}
use Rattle.jlr_barrier.specs.Graphs.{Graph, Known}
use Rattle.jlr_state.specs.Machines.{machine_of}
use Rattle.jlr_state.specs.Collecting.{FindsNoRoom}
use Rattle.jlr_state.specs.State.{machine_with}
use Rattle.jlr_state.proofs.Rooms.{finds_no_room}
use Rattle.jlr_state.proofs.Hands.{held_in_hand}
use Rattle.jlr_state.proofs.Rooms.{mutators_stay}
use Rattle.jlr_marks.specs.Marking.{Blackened, Marking, marked}
use Rattle.jlr_state.proofs.state.State.collect_and_allocate.Goals as goal

pub returns-in_default-clause-full : goal.returns-in_default-clause-full
returns-in_default-clause-full g c = (
  refl,
  subst (λ (h : Graph). FindsNoRoom (machine_of c.args.self.now) 1 c.collect_when_full.new.choice
      (machine_with c.collect_when_full.new.self.cleaner h c.collect_when_full.new.self.cycle_open))
      (sym (ap (λ (h : Known). h.graph) c.in_default.ensures.none))
      (finds_no_room (machine_of c.args.self.now) 1 c.args.choice.now c.collect_when_full.new.choice
      (machine_of c.collect_when_full.new.self) c.collect_when_full.ensures.made (omega (arith, c.in_default.ensures.full.0 refl))),
)

-- a collection leaves the handles as they are
pub allocate-requires : goal.allocate-requires
allocate-requires g c =
    λ s h.
    held_in_hand c.collect_when_full.new.self.heap s (subst (λ l. s ∈ slots_held l)
    (sym (mutators_stay (machine_of c.args.self.now) c.collect_when_full.new.choice.chosen.collected
    (machine_of c.collect_when_full.new.self) c.collect_when_full.ensures.made.left)) (c.requires.held s h))

-- where no collection was made, all else is as before
pub returns-clause-one : goal.returns-clause-one
returns-clause-one g c =
    λ none.
    let same = c.collect_when_full.ensures.marks (ap (λ (x : Choosing). x.chosen.collected) (sym c.add_fresh.ensures) ∙ none) in
    subst (λ (k : Marking). Blackened c.in-Some.slot k c.allocate.new.self.marking × (marked c.allocate.new.self.marking ≡ marked k + 1))
    same (c.in-Some.ensures.black, c.in-Some.ensures.count)
