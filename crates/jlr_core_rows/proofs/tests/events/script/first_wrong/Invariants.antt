use Rattle.std.proofs.Common.{◌≤◌, length}
use Rattle.jlr_core_rows.proofs.tests.events.script.first_wrong.Given as goal

abbrev pub invariant-loop-row : goal.invariant-loop-row
invariant-loop-row l = length l.core.machine.objects ≤ l.choice.cells
