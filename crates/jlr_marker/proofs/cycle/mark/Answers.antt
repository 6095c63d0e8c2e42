use Rattle.std.proofs.Common.{arith}
use Rattle.std.proofs.lemmas.Grind.{common_steps}
use Rattle.jlr_marker.proofs.cycle.mark.Goals as goal

pub returns-then-has_grey-clause-marks : goal.returns-then-has_grey-clause-marks
returns-then-has_grey-clause-marks c = grind (arith, common_steps)
