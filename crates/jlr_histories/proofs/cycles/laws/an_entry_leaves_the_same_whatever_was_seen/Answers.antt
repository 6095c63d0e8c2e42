use Rattle.jlr_histories.proofs.Left.{leaves_the_same}
use Rattle.jlr_histories.proofs.cycles.laws.an_entry_leaves_the_same_whatever_was_seen.Goals as goal

pub returns : goal.returns
returns c = leaves_the_same
