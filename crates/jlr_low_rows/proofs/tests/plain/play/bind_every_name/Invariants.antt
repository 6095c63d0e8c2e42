use Rattle.jlr_machine.specs.WellFormed.{IsWellFormed}
use Rattle.jlr_low_rows.proofs.tests.plain.play.bind_every_name.Given as goal

abbrev pub invariant-loop-number : goal.invariant-loop-number
invariant-loop-number l = IsWellFormed l.machine
