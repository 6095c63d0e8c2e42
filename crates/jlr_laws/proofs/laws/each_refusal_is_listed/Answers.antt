use Rattle.jlr_laws.proofs.Refused.{refusals_are_listed}
use Rattle.jlr_laws.proofs.laws.each_refusal_is_listed.Goals as goal

pub returns : goal.returns
returns c = refusals_are_listed
