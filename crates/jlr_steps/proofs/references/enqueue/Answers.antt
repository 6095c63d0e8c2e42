use Rattle.std.proofs.Common.{rules, inl, ◌∙◌}
use Rattle.jlr_state.specs.Machines.{machine_of}
use Rattle.jlr_state.proofs.Frames.{frame_of}
use Rattle.jlr_state.specs.State.{machine_with}
use Rattle.jlr_state.proofs.Queues.{enqueue_after, enqueue_reply, enqueued_long}
use Rattle.jlr_state.proofs.Hands.{held_in_hand, named_held}
use Rattle.jlr_state.proofs.Shading.{by_edge, named_root, next_edge, shaded_new}
use Rattle.jlr_steps.proofs.references.enqueue.Goals as goal

pub returns-clause-answered : goal.returns-clause-answered
returns-clause-answered g c =
    let m = machine_of c.args.state.now in
    let slot = c.in_ok-slot.slot in
    let named = c.in_ok-slot.ensures.1 in (
      c.in_ok-slot.ensures.0,
      enqueue_reply m c.args.by c.args.reference slot c.enqueue.result named c.enqueue.ensures.answer,
      c.enqueue.ensures.enqueued (frame_of c.args.state.now) ∙ enqueue_after m c.args.by c.args.reference slot named,
    )

pub returns-clause-rest : goal.returns-clause-rest
returns-clause-rest g c = record {
  age = search rules;
  cleaner = search rules;
  clock = search rules;
  cells = enqueued_long (machine_of c.args.state.now)
      (machine_with c.args.state.now.cleaner c.enqueue.new.heap.graph c.args.state.now.cycle_open) c.in_ok-slot.slot
      (c.enqueue.ensures.enqueued (frame_of c.args.state.now));
}

-- what a handle names is in hand
pub enqueue-requires-clause-held : goal.enqueue-requires-clause-held
enqueue-requires-clause-held g c =
    let s = c.args.state.now in
    held_in_hand s.heap c.in_ok-slot.slot (named_held (machine_of s) c.args.by c.args.reference c.in_ok-slot.slot c.in_ok-slot.ensures.1)

-- its queue was ahead of it
pub returns-clause-marks : goal.returns-clause-marks
returns-clause-marks g c =
    let s = c.args.state.now in
    let m = machine_of s in
    let slot = c.in_ok-slot.slot in
    shaded_new m _ s.heap.marking _ _ c.enqueue.ensures.shaded
    (λ x e. inl (by_edge m s.heap.marking slot x (named_root m c.args.by c.args.reference slot c.in_ok-slot.ensures.1)
    (next_edge m.objects slot x e)))
