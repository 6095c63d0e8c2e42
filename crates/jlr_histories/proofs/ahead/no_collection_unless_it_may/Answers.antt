use Rattle.jlr_histories.proofs.Collecting.{no_collection_unless_it_may}
use Rattle.jlr_histories.proofs.ahead.no_collection_unless_it_may.Goals as goal

pub returns : goal.returns
returns c = no_collection_unless_it_may
