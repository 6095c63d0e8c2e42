use Rattle.std.proofs.Common.{◌≡◌, ◌&&◌, Some, is_some, not, inl, inr, sym, subst, ap, ◌∙◌}
use Rattle.jlr_machine.specs.Lookups.{has_free_handle}
use Rattle.jlr_state.specs.Machines.{machine_of}
use Rattle.jlr_state.proofs.Hands.{gotten_object}
use Rattle.jlr_state.proofs.Queues.{same_room}
use Rattle.jlr_marks.specs.Marking.{Marking, Shaded}
use Rattle.jlr_barrier.specs.Graphs.{Graph, gotten_at}
use Rattle.jlr_state.specs.State.{machine_with}
use Rattle.jlr_state.proofs.Shading.{given_option_root, shaded_new}
use Rattle.jlr_steps.proofs.references.deref.Goals as goal

-- what a reference gives is an object, and is shaded
pub get-given-requires : goal.get-given-requires
get-given-requires g c = λ s e. gotten_object (machine_of c.args.state.now) c.requires c.in_ok-slot.slot s e

pub give_known-requires-clause-held : goal.give_known-requires-clause-held
give_known-requires-clause-held g c = λ s e. inl (c.get-given.ensures.shaded.all s (sym c.get-given.ensures.given ∙ e))

-- for which there is room
pub give_known-requires-clause-room : goal.give_known-requires-clause-room
give_known-requires-clause-room g c =
    let s = c.args.state.now in
    let m = machine_of s in
    same_room m (machine_with s.cleaner c.get-given.new.heap.graph s.cycle_open) c.args.by c.get-given.result
    (ap (λ (h : Graph). h.mutators) c.get-given.ensures.graph)
    (ap (λ o. is_some o && not (has_free_handle m c.args.by)) (c.get-given.ensures.given ∙ sym c.gotten.ensures)
    ∙ c.in_ok-check_room_for.ensures)

-- and has a handle afterwards
pub returns-clause-marks : goal.returns-clause-marks
returns-clause-marks g c =
    let s = c.args.state.now in
    let m = machine_of s in
    let mid = machine_with s.cleaner c.get-given.new.heap.graph s.cycle_open in
    let shaded = subst (λ (k : Marking). Shaded (λ x. gotten_at s.heap.graph.objects c.in_ok-slot.slot ≡ Some x) s.heap.marking k)
    (sym c.give_known.ensures.marking) c.get-given.ensures.shaded in
    shaded_new m _ s.heap.marking _ _ shaded (λ x e. inr
    (given_option_root m mid _ c.args.by x c.get-given.result c.requires (ap (λ (h : Graph). h.mutators) c.get-given.ensures.graph)
    (ap (λ o. is_some o && not (has_free_handle m c.args.by)) (c.get-given.ensures.given ∙ sym c.gotten.ensures)
    ∙ c.in_ok-check_room_for.ensures) c.give_known.ensures.held (c.get-given.ensures.given ∙ e)))
