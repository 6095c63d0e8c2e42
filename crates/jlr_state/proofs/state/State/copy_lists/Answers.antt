use Rattle.std.proofs.Common.{arith}
use Rattle.std.proofs.lemmas.Grind.{common_steps}
use Rattle.jlr_state.proofs.state.State.copy_lists.Goals as goal

pub returns : goal.returns
returns g c = grind (arith, common_steps)
