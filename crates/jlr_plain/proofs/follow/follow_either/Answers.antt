use Rattle.std.proofs.Common.{ap, sym, ◌∙◌}
use Rattle.jlr_machine.specs.Refusals.{is_refusal}
use Rattle.jlr_plain.proofs.Records.{has_next_action}
use Rattle.jlr_plain.proofs.follow.follow_either.Goals as goal

pub follow_alone-requires-clause-actions : goal.follow_alone-requires-clause-actions
follow_alone-requires-clause-actions c = λ stays.
    has_next_action c.args.machine.now c.args.kept.now c.requires (ap is_refusal (sym c.stand_in-answer.ensures) ∙ stays)
