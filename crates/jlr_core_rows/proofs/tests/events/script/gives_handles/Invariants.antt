use Rattle.std.proofs.Common.{◌≤◌, length}
use Rattle.jlr_core_rows.proofs.tests.events.script.gives_handles.Given as goal

abbrev pub invariant-loop-number : goal.invariant-loop-number
invariant-loop-number l = length l.core.machine.objects ≤ l.choice.cells
