use Rattle.jlr_histories.proofs.CoreStands.{legal_in_all}
use Rattle.jlr_histories.proofs.cycles.laws.a_legal_entry_of_a_core_is_legal_in_all_for_which_it_stands.Goals as goal

pub returns : goal.returns
returns c = legal_in_all
