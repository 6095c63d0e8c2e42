use Rattle.jlr_laws.proofs.LawProofs.{each_clearing_is_as_specified}
use Rattle.jlr_laws.proofs.laws.each_clearing_is_as_specified.Goals as goal

pub returns : goal.returns
returns c = each_clearing_is_as_specified
