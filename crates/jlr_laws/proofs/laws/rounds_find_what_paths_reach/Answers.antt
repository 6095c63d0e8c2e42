use Rattle.jlr_laws.proofs.LawProofs.{rounds_find_what_paths_reach}
use Rattle.jlr_laws.proofs.laws.rounds_find_what_paths_reach.Goals as goal

pub returns : goal.returns
returns c = rounds_find_what_paths_reach
