use Rattle.jlr_laws.proofs.LawProofs.{soft_references_go}
use Rattle.jlr_laws.proofs.laws.soft_references_go_before_a_full_heap.Goals as goal

pub returns : goal.returns
returns c = soft_references_go
