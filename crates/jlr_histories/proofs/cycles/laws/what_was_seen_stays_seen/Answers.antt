use Rattle.jlr_histories.proofs.Growing.{seen_stays_seen}
use Rattle.jlr_histories.proofs.cycles.laws.what_was_seen_stays_seen.Goals as goal

pub returns : goal.returns
returns c = seen_stays_seen
