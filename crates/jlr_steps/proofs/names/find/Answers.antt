use Rattle.jlr_state.proofs.Hands.{bound_in_hand}
use Rattle.jlr_steps.proofs.names.find.Goals as goal

-- what a name stands for is in hand
pub give-requires-clause-held : goal.give-requires-clause-held
give-requires-clause-held g c = bound_in_hand c.args.state.now.heap c.args.name.now c.in_ok-slot.slot c.in_ok-slot.ensures
