use Rattle.jlr_laws.proofs.Law.{run_kept}
use Rattle.jlr_laws.proofs.laws.a_run_keeps_the_machine_well_formed.Goals as goal

pub returns : goal.returns
returns c = run_kept
