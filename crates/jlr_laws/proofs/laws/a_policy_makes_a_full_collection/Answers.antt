use Rattle.jlr_laws.proofs.LawProofs.{policy_makes_full}
use Rattle.jlr_laws.proofs.laws.a_policy_makes_a_full_collection.Goals as goal

pub returns : goal.returns
returns c = policy_makes_full
