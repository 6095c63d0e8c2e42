use Rattle.std.proofs.Common.{◌≡◌, arith}
use Rattle.jlr_roots.proofs.Members.{new_sessions}
use Rattle.jlr_roots.proofs.roots.Roots.new.Goals as goal

pub returns : goal.returns
returns c = let all : c.loop.counter ≡ c.args.sessions = omega arith in rw (c.loop.invariant, all) (new_sessions c.args.sessions)
