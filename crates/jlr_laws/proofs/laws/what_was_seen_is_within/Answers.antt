use Rattle.jlr_laws.proofs.Legality.{seen_is_within}
use Rattle.jlr_laws.proofs.laws.what_was_seen_is_within.Goals as goal

pub returns : goal.returns
returns c = seen_is_within
