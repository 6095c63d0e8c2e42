use Rattle.jlr_laws.proofs.Decided.{background_is_decided}
use Rattle.jlr_laws.proofs.laws.background_collections_are_decided.Goals as goal

pub returns : goal.returns
returns c = background_is_decided
