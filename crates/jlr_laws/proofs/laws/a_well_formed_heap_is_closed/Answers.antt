use Rattle.jlr_laws.proofs.Empty.{well_formed_within}
use Rattle.jlr_laws.proofs.laws.a_well_formed_heap_is_closed.Goals as goal

pub returns : goal.returns
returns c = well_formed_within
