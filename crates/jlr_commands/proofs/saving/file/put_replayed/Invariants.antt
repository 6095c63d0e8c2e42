use Rattle.jlr_commands.proofs.Replaying.{IsWritten}
use Rattle.jlr_commands.proofs.saving.file.put_replayed.Given as goal

abbrev pub invariant-loop-place : goal.invariant-loop-place
invariant-loop-place l = IsWritten l.fn.machine l.machine l.records l.place l.fn.out.items l.out.items
