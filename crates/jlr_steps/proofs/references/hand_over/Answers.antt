use Rattle.std.proofs.Common.{rules, inl, refl}
use Rattle.jlr_state.specs.Machines.{machine_of}
use Rattle.jlr_state.proofs.Frames.{frame_of}
use Rattle.jlr_state.specs.State.{machine_with}
use Rattle.jlr_state.proofs.Queues.{handed_over_long}
use Rattle.jlr_state.proofs.Shading.{pending_queue, shaded_new}
use Rattle.jlr_steps.proofs.references.hand_over.Goals as goal

pub returns-clause-answered : goal.returns-clause-answered
returns-clause-answered g c = let h = c.hand_over.ensures.handed (frame_of c.args.state.now) in (refl, h.0, h.1)

pub returns-clause-rest : goal.returns-clause-rest
returns-clause-rest g c =
    let h = c.hand_over.ensures.handed (frame_of c.args.state.now) in
    record {
      cells = handed_over_long (machine_of c.args.state.now)
          (machine_with c.args.state.now.cleaner c.hand_over.new.heap.graph c.args.state.now.cycle_open) h.1;
      age = search rules;
      cleaner = search rules;
      clock = search rules;
    }

-- the queue of what was pending was ahead of it
pub returns-clause-marks : goal.returns-clause-marks
returns-clause-marks g c =
    let s = c.args.state.now in
    shaded_new (machine_of s) _ s.heap.marking _ _ c.hand_over.ensures.shaded
    (λ x e. inl (pending_queue (machine_of s) s.heap.marking x e.1))
