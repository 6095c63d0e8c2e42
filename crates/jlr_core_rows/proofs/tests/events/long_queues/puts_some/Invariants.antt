use Rattle.std.proofs.Common.{◌≤◌, length}
use Rattle.jlr_core_rows.proofs.tests.events.long_queues.puts_some.Given as goal

abbrev pub invariant-loop-other : goal.invariant-loop-other
invariant-loop-other l = length l.core.machine.objects ≤ l.choice.cells
