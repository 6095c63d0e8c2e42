use Rattle.jlr_state.specs.Machines.{machine_of}
use Rattle.jlr_state.proofs.Hands.{held_in_hand, named_held}
use Rattle.jlr_steps.proofs.handles.dup.Goals as goal

-- what a handle names is in hand
pub give-requires-clause-held : goal.give-requires-clause-held
give-requires-clause-held g c =
    let s = c.args.state.now in
    held_in_hand s.heap c.in_ok-slot.slot (named_held (machine_of s) c.args.by c.args.object c.in_ok-slot.slot c.in_ok-slot.ensures.slot.0)
