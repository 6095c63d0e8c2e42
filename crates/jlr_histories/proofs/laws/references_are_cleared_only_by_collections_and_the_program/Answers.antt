use Rattle.jlr_histories.proofs.Forward.{only_they_clear}
use Rattle.jlr_histories.proofs.laws.references_are_cleared_only_by_collections_and_the_program.Goals as goal

pub returns : goal.returns
returns c = only_they_clear
