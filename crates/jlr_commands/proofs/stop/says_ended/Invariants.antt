use Rattle.jlr_commands.specs.Stopping.{EndsWell}
use Rattle.jlr_commands.proofs.stop.says_ended.Given as goal

-- what was said so far
abbrev pub invariant-loop-read : goal.invariant-loop-read
invariant-loop-read g l = EndsWell (g.R.Read.remaining l.fn.reader) (g.R.Read.remaining l.reader) l.has_ended
