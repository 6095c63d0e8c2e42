use Rattle.jlr_laws.proofs.LawProofs.{leaves_what_its_steps_leave}
use Rattle.jlr_laws.proofs.laws.a_collection_leaves_what_its_steps_leave.Goals as goal

pub returns : goal.returns
returns c = leaves_what_its_steps_leave
