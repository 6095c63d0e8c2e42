use Rattle.jlr_wire.proofs.Layouts.{is_layout_of}
use Rattle.jlr_wire.proofs.layout.layout.Goals as goal

pub returns : goal.returns
returns c = is_layout_of _ _ c.parse_layout.ensures.found c.parse_layout.ensures.none
