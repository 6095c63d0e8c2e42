use Rattle.std.proofs.Common.{arith}
use Rattle.std.proofs.lemmas.Grind.{common_steps}
use Rattle.jlr_process.proofs.settle.settle.Goals as goal

pub returns-then-is_none-clause-graph : goal.returns-then-is_none-clause-graph
returns-then-is_none-clause-graph c = grind (arith, common_steps)
