use Rattle.jlr_histories.proofs.Legal.{legal_when_more_was_seen}
use Rattle.jlr_histories.proofs.cycles.laws.an_entry_stays_legal_when_more_was_seen.Goals as goal

pub returns : goal.returns
returns c = legal_when_more_was_seen
