use Rattle.std.proofs.Common.{arith}
use Rattle.std.proofs.lemmas.Grind.{common_steps}
use Rattle.jlr_marker.proofs.edges.follow_soft.Goals as goal

pub returns-then-keeps-clause-shaded : goal.returns-then-keeps-clause-shaded
returns-then-keeps-clause-shaded c = grind (arith, common_steps)
