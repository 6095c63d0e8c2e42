use Rattle.jlr_laws.proofs.UpToDate.{seen_stays_up_to_date}
use Rattle.jlr_laws.proofs.laws.what_was_seen_stays_up_to_date.Goals as goal

pub returns : goal.returns
returns c = seen_stays_up_to_date
