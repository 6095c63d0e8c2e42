use Rattle.jlr_laws.proofs.Refused.{full_heap_leaves}
use Rattle.jlr_laws.proofs.laws.a_full_heap_leaves_its_collection.Goals as goal

pub returns : goal.returns
returns c = full_heap_leaves
