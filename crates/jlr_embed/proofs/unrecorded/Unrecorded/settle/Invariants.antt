use Rattle.std.proofs.Common.{List, length}
use Rattle.jlr_machine.specs.declared.ask.Handed.{Handed}
use Rattle.jlr_embed.specs.Settling.{HandsOverSteps}
use Rattle.jlr_embed.proofs.unrecorded.Unrecorded.settle.Given as goal

abbrev pub invariant-loop-self : goal.invariant-loop-self
invariant-loop-self g l = (all : List Handed) × HandsOverSteps all l.fn.self l.self

abbrev pub decreases-loop-self : goal.decreases-loop-self
decreases-loop-self g l = length l.self.machine.pending
