use Rattle.jlr_laws.proofs.LawProofs.{comes_down_to_cutting_off}
use Rattle.jlr_laws.proofs.laws.a_collection_cuts_off.Goals as goal

pub returns : goal.returns
returns c = comes_down_to_cutting_off
