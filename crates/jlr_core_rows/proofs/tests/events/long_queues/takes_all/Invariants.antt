use Rattle.std.proofs.Common.{◌≤◌, length}
use Rattle.jlr_core_rows.proofs.tests.events.long_queues.takes_all.Given as goal

abbrev pub invariant-loop-kept : goal.invariant-loop-kept
invariant-loop-kept l = length l.core.machine.objects ≤ l.choice.cells
