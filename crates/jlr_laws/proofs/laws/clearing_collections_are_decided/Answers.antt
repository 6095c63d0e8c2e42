use Rattle.jlr_laws.proofs.Decided.{clearing_is_decided}
use Rattle.jlr_laws.proofs.laws.clearing_collections_are_decided.Goals as goal

pub returns : goal.returns
returns c = clearing_is_decided
