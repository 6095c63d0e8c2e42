use Rattle.std.proofs.Common.{rules, ◌≡◌, [], false, true, refl, ◌∙◌, ◌∷◌, ◌&&◌, ℕ, List, Bool, not, is_some, slice_get, arith}
use Rattle.jlr_process.specs.Flipping.{Flips}
use Rattle.jlr_state.specs.Machines.{machine_of}
use Rattle.jlr_state.specs.State.{machine_with}
use Rattle.jlr_state.proofs.Clearings.{counts_collection, keeps_marked, leaves_cells, meets_collect, tells_cells}
use Rattle.jlr_state.proofs.Frames.{frame_of}
use Rattle.jlr_state.proofs.Roots.{rooted}
use Rattle.jlr_state.proofs.state.State.collect_cycle.Given.{Over}
use Rattle.std.proofs.lemmas.Grind.{common_steps}
use Rattle.jlr_state.proofs.state.State.collect_cycle.Goals as goal
use Rattle.jlr_state.proofs.state.State.collect_cycle.Goals.{then-not-self-via-then-not-self, then-not-self-via-else-not-self+then-has_grey}

pub flip-requires-clause-fit : goal.flip-requires-clause-fit
flip-requires-clause-fit g c = let s = c.args.self.now in (frame_of s, rooted s.cleaner s.heap.graph s.cycle_open c.requires.fit)

-- what the flip did to the machine
flips : (g : Over) (c : goal.After-self-1 g) → Flips (machine_of c.args.self.now) c.args.self.now.heap.marking c.args.choice.now
    c.flip.new.choice (machine_with c.args.self.now.cleaner c.flip.new.heap.graph c.args.self.now.cycle_open)
flips g c = let s = c.args.self.now in c.flip.ensures.flips (frame_of s) (rooted s.cleaner s.heap.graph s.cycle_open c.requires.fit)

pub returns-clause-meets : goal.returns-clause-meets
returns-clause-meets g c =
    let s = c.args.self.now in
    let whole : s.heap.marking.grey ≡ [] = c.has_grey.ensures.exact.0 c.if-has_grey.false in
    let still : s.cycle_open ≡ true = search rules in
    meets_collect (machine_of s) s.heap.marking c.args.choice.now c.flip.new.choice
    (machine_with s.cleaner c.flip.new.heap.graph s.cycle_open) (flips g c) c.requires.nothing
    (machine_with s.cleaner c.flip.new.heap.graph false) still (c.has_grey.ensures.whole whole).objects refl

pub returns-clause-kept : goal.returns-clause-kept
returns-clause-kept g c =
    let s = c.args.self.now in
    keeps_marked (machine_of s) s.heap.marking c.args.choice.now c.flip.new.choice
    (machine_with s.cleaner c.flip.new.heap.graph s.cycle_open) (flips g c) c.requires.nothing c.has_grey.ensures.bits

pub returns-clause-room : goal.returns-clause-room
returns-clause-room g c =
    let s = c.args.self.now in
    tells_cells (machine_of s) s.heap.marking c.args.choice.now c.flip.new.choice
    (machine_with s.cleaner c.flip.new.heap.graph s.cycle_open) (flips g c) c.requires.nothing

pub returns-clause-cells : goal.returns-clause-cells
returns-clause-cells g c =
    let s = c.args.self.now in
    leaves_cells (machine_of s) s.heap.marking c.args.choice.now c.flip.new.choice
    (machine_with s.cleaner c.flip.new.heap.graph s.cycle_open) (flips g c) c.requires.nothing

pub returns-clause-clock : goal.returns-clause-clock
returns-clause-clock g c =
    let s = c.args.self.now in
    c.flip.ensures.clock ∙ counts_collection (machine_of s) s.heap.marking c.args.choice.now c.flip.new.choice
    (machine_with s.cleaner c.flip.new.heap.graph s.cycle_open) (flips g c) c.requires.nothing s.heap.clock

-- a grey cell is found, so not all is marked
grey_found : (grey : List ℕ) (found cycle : Bool) → found ≡ true → (grey ≡ [] → found ≡ false)
    → false ≡ (cycle && not (is_some (slice_get grey 0)))
grey_found [] found cycle is none = grind (arith, is, none refl)
grey_found (x ∷ grey) found cycle is none = grind (arith, common_steps)

pub returns-then-not-self-clause-answer : goal.returns-then-not-self-clause-answer
returns-then-not-self-clause-answer g c =
    elim c.then-not-self.branch [
      | then-not-self-via-then-not-self w ↦ grind (arith, common_steps, w.if-not-self)
      | then-not-self-via-else-not-self+then-has_grey w ↦
          grey_found c.args.self.now.heap.marking.grey w.has_grey.result c.args.self.now.cycle_open w.if-has_grey.true
          w.has_grey.ensures.exact.1
    ]
