use Rattle.jlr_wire.proofs.Spelled.{one_command}
use Rattle.jlr_wire.proofs.spelling.lines_spell_one_command.Goals as goal

pub returns : goal.returns
returns c = one_command
