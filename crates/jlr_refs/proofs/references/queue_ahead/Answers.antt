use Rattle.std.proofs.Common.{arith}
use Rattle.std.proofs.lemmas.Grind.{common_steps}
use Rattle.jlr_refs.proofs.references.queue_ahead.Goals as goal

pub returns-in-Queued : goal.returns-in-Queued
returns-in-Queued c = grind (arith, common_steps)
