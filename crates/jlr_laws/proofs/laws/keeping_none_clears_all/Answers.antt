use Rattle.jlr_laws.proofs.LawProofs.{keeping_none_makes_clearing}
use Rattle.jlr_laws.proofs.laws.keeping_none_clears_all.Goals as goal

pub returns : goal.returns
returns c = keeping_none_makes_clearing
