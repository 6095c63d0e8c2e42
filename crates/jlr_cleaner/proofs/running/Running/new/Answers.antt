use Rattle.std.proofs.Common.{arith}
use Rattle.jlr_cleaner.proofs.Apart.{apart_none}
use Rattle.jlr_cleaner.proofs.running.Running.new.Goals as goal

pub invariant_of-result : goal.invariant_of-result
invariant_of-result c = (rw c.in_ok-with_capacity.ensures.items apart_none, omega (arith, c.in_ok-with_capacity.ensures.exact))
