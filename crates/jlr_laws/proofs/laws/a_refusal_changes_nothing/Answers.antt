use Rattle.jlr_laws.proofs.Refused.{refusal_changes_nothing}
use Rattle.jlr_laws.proofs.laws.a_refusal_changes_nothing.Goals as goal

pub returns : goal.returns
returns c = refusal_changes_nothing
