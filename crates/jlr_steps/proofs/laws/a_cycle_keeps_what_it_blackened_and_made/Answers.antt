use Rattle.jlr_steps.proofs.Ticks.{counts_its_cycles}
use Rattle.jlr_steps.proofs.laws.a_cycle_keeps_what_it_blackened_and_made.Goals as goal

pub returns : goal.returns
returns g c = counts_its_cycles c.args.core.now
