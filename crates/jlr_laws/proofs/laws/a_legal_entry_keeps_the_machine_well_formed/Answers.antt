use Rattle.jlr_laws.proofs.Law.{legal_kept}
use Rattle.jlr_laws.proofs.laws.a_legal_entry_keeps_the_machine_well_formed.Goals as goal

pub returns : goal.returns
returns c = legal_kept
