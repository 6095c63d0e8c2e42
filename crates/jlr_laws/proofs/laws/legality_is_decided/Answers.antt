use Rattle.jlr_laws.proofs.Legality.{legality_is_decided}
use Rattle.jlr_laws.proofs.laws.legality_is_decided.Goals as goal

pub returns : goal.returns
returns c = legality_is_decided
