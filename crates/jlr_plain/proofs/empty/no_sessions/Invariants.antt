use Rattle.std.proofs.Common.{◌≡◌, replicate, None}
use Rattle.jlr_plain.proofs.empty.no_sessions.Given as goal

abbrev pub invariant-loop-seat : goal.invariant-loop-seat
invariant-loop-seat l = l.out.items ≡ replicate l._seat None
