use Rattle.jlr_commands.proofs.Hearing.{last_is, said_more, said_nothing}
use Rattle.jlr_commands.proofs.stop.says_ended.Goals as goal
use Rattle.jlr_commands.proofs.stop.says_ended.Goals.{in-Said, in-Nothing}

pub loop-read-preserved : goal.loop-read-preserved
loop-read-preserved g c = elim c.match-read_byte.branch [
  | in-Said w ↦ said_more _ _ _ c.loop-read.has_ended _ w.in-Said.byte c.loop-read.invariant w.in-Said.ensures (last_is _ _ w.has_ended-is)
  | in-Nothing w ↦ rw w.has_ended-is (said_nothing _ _ _ c.loop-read.has_ended c.loop-read.invariant w.in-Nothing.ensures)
]
