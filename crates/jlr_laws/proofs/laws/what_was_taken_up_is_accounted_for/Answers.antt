use Rattle.jlr_laws.proofs.RunLaws.{taken_up_is_accounted_for}
use Rattle.jlr_laws.proofs.laws.what_was_taken_up_is_accounted_for.Goals as goal

pub returns : goal.returns
returns c = taken_up_is_accounted_for
