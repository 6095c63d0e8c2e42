use Rattle.jlr_laws.proofs.LawProofs.{background_comes_down}
use Rattle.jlr_laws.proofs.laws.a_background_collection_cuts_off.Goals as goal

pub returns : goal.returns
returns c = background_comes_down
