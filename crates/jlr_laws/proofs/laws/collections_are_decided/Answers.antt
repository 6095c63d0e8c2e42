use Rattle.jlr_laws.proofs.Decided.{collections_are_decided}
use Rattle.jlr_laws.proofs.laws.collections_are_decided.Goals as goal

pub returns : goal.returns
returns c = collections_are_decided
