use Rattle.std.proofs.Common.{rules}
use Rattle.jlr_wire.proofs.Integers.{is_integer_of}
use Rattle.jlr_wire.proofs.integer.integer.Goals as goal

pub returns : goal.returns
returns c = is_integer_of _ _ (search rules) c.parse_integer.ensures.found c.parse_integer.ensures.none
