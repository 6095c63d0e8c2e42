use Rattle.jlr_wire.proofs.Spelled.{one_spelling}
use Rattle.jlr_wire.proofs.spelling.commands_have_one_spelling.Goals as goal

pub returns : goal.returns
returns c = one_spelling
