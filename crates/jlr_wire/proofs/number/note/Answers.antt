use Rattle.std.proofs.Common.{rules}
use Rattle.jlr_wire.proofs.Numbers.{decimal_note, is_note_of}
use Rattle.jlr_wire.proofs.number.note.Goals as goal

pub returns : goal.returns
returns c = is_note_of _ _ (search rules) c.parse_number.ensures.found c.parse_number.ensures.none

pub returns-in-Some : goal.returns-in-Some
returns-in-Some c = decimal_note _ _ (search rules) c.in-Some.ensures
