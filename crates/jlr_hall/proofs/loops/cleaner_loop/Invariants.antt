use Rattle.std.specs.Prelude.{None}
use Rattle.jlr_hall.specs.Loops.{CleansIn}
use Rattle.jlr_hall.proofs.loops.cleaner_loop.Given as goal

abbrev pub invariant-loop : goal.invariant-loop
invariant-loop g l = CleansIn g.R.Resource.handling g.L.Limited.limits l.fn.seat None l.seat
