use Rattle.jlr_machine.specs.WellFormed.{IsWellFormed}
use Rattle.jlr_low_rows.proofs.tests.plain.play.first_wrong.Given as goal

abbrev pub invariant-loop-row : goal.invariant-loop-row
invariant-loop-row l = IsWellFormed l.machine
