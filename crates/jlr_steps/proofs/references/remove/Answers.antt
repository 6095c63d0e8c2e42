use Rattle.std.proofs.Common.{rules, inl, ◌≡◌, ◌&&◌, Some, not, is_some, sym, subst, ◌∙◌, ap, length}
use Rattle.jlr_machine.specs.Lookups.{has_free_handle}
use Rattle.jlr_machine.specs.Objects.{as_members, at, Heap}
use Rattle.std.specs.Prelude.{option_and_then}
use Rattle.jlr_state.specs.Machines.{machine_of}
use Rattle.jlr_state.proofs.Frames.{frame_of}
use Rattle.jlr_state.specs.State.{machine_with}
use Rattle.jlr_state.proofs.Queues.{fronts_first, remove_answered, polled_long, polled_mutators, same_room}
use Rattle.jlr_marks.specs.Marking.{Marking, Shaded}
use Rattle.jlr_state.proofs.Shading.{by_edge, named_root, polled_edge, shaded_new}
use Rattle.jlr_steps.proofs.references.remove.Goals as goal

pub give_known-requires-clause-room : goal.give_known-requires-clause-room
give_known-requires-clause-room g c =
    let m = machine_of c.args.state.now in
    let mid = machine_with c.args.state.now.cleaner c.poll-member.new.heap.graph c.args.state.now.cycle_open in
    let first = c.poll-member.ensures.front ∙ fronts_first (option_and_then as_members (at m.objects c.in_ok-slot.slot)) in
    same_room m mid c.args.by c.poll-member.result (polled_mutators m mid c.in_ok-slot.slot c.poll-member.result
    (c.poll-member.ensures.polled (frame_of c.args.state.now)))
    (ap (λ o. is_some o && not (has_free_handle m c.args.by)) first ∙ c.in_ok-slot.ensures.3)

pub returns-clause-answered : goal.returns-clause-answered
returns-clause-answered g c =
    let m = machine_of c.args.state.now in
    let mid = machine_with c.args.state.now.cleaner c.poll-member.new.heap.graph c.args.state.now.cycle_open in
    remove_answered m mid (machine_of c.give_known.new.state) c.args.by c.args.queue c.in_ok-slot.slot c.poll-member.result
    c.give_known.result
    c.in_ok-slot.ensures.0 c.in_ok-slot.ensures.1 c.poll-member.ensures.front (c.poll-member.ensures.polled (frame_of c.args.state.now))
    c.give_known.ensures.answer c.give_known.ensures.held

pub returns-clause-rest : goal.returns-clause-rest
returns-clause-rest g c =
    let m = machine_of c.args.state.now in record {
      cells = ap (λ (h : Heap). length h) c.give_known.ensures.objects
          ∙ polled_long m (machine_with c.args.state.now.cleaner c.poll-member.new.heap.graph c.args.state.now.cycle_open) c.in_ok-slot.slot
          c.poll-member.result (c.poll-member.ensures.polled (frame_of c.args.state.now));
      age = search rules;
      cleaner = search rules;
      clock = search rules;
    }

-- what leaves a queue is shaded
pub give_known-requires-clause-held : goal.give_known-requires-clause-held
give_known-requires-clause-held g c = λ s e. inl (c.poll-member.ensures.shaded.all s e)

-- and stood in it
pub returns-clause-marks : goal.returns-clause-marks
returns-clause-marks g c =
    let s = c.args.state.now in
    let m = machine_of s in
    let queue = c.in_ok-slot.slot in
    let shaded = subst (λ (k : Marking). Shaded (λ x. c.poll-member.result ≡ Some x) s.heap.marking k) (sym c.give_known.ensures.marking)
    c.poll-member.ensures.shaded in
    shaded_new m _ s.heap.marking _ _ shaded (λ x e. inl
    (by_edge m s.heap.marking queue x (named_root m c.args.by c.args.queue queue c.in_ok-slot.ensures.1)
    (polled_edge m.objects queue x (sym c.poll-member.ensures.front ∙ e))))
