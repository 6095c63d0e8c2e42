use Rattle.std.proofs.Common.{◌≡◌, true, false, refl, sym, subst}
use Rattle.std.proofs.lemmas.Bool.{both_ways}
use Rattle.jlr_barrier.specs.Graphs.{Graph}
use Rattle.jlr_marker.specs.Following.{keeps}
use Rattle.jlr_sweep.proofs.Kept.{edge_object, referent_inside}
use Rattle.jlr_state.specs.Machines.{machine_of}
use Rattle.jlr_state.specs.Marks.{MarksPiece, MarksReached}
use Rattle.jlr_state.specs.State.{machine_with}
use Rattle.jlr_state.proofs.Frames.{frame_of}
use Rattle.jlr_state.proofs.Roots.{rooted}
use Rattle.jlr_state.proofs.Beginning.{piece_in_cycle, piece_reached}
use Rattle.jlr_state.proofs.state.State.mark.Goals as goal

pub mark-requires-clause-objects : goal.mark-requires-clause-objects
mark-requires-clause-objects g c = let s = c.args.self.now in
    edge_object (frame_of s) s.heap.graph (rooted s.cleaner s.heap.graph s.cycle_open c.requires)

pub mark-requires-clause-within : goal.mark-requires-clause-within
mark-requires-clause-within g c = let s = c.args.self.now in
    referent_inside (frame_of s) s.heap.graph (rooted s.cleaner s.heap.graph s.cycle_open c.requires)

pub returns-clause-reached : goal.returns-clause-reached
returns-clause-reached g c =
    λ still slot on.
    let s = c.args.self.now in
    let new = c.mark.new.heap.marking in
    let here : MarksReached (machine_of s) s.heap.marking (machine_of s) new =
    piece_reached (machine_of s) s.heap.marking new (keeps c.new-policy.result s.heap.clock) c.args.budget _ c.mark.result
    (c.mark.ensures.marks still) in
    subst (λ (h : Graph). MarksReached (machine_of s) s.heap.marking (machine_with s.cleaner h s.cycle_open) new) (sym c.mark.ensures.graph)
    here still slot on

pub returns-clause-piece : goal.returns-clause-piece
returns-clause-piece g c =
    let s = c.args.self.now in
    let new = c.mark.new.heap.marking in
    elim s.cycle_open as (λ b. s.cycle_open ≡ b → MarksPiece c.args.budget s.soft_age s.heap.clock (machine_of s) s.heap.marking
    s.heap.condemned c.mark.result new c.mark.new.heap.condemned) [
      | true ↦ λ still.
          piece_in_cycle (machine_of s) s.heap.marking new s.heap.condemned c.mark.new.heap.condemned c.args.budget _ s.soft_age
          s.heap.clock c.new-policy.result c.mark.result
          c.new-policy.ensures.soft_age c.new-policy.ensures.mode still (c.mark.ensures.marks still) c.mark.ensures.condemned
      | false ↦ λ shut. absurd (both_ways s.cycle_open shut c.if-not-self.false)
    ] refl
