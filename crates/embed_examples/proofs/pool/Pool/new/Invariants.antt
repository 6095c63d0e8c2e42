use Rattle.std.proofs.Common.{◌≡◌, vec_len}
use Rattle.embed_examples.proofs.pool.Pool.new.Given as goal

abbrev pub invariant-loop-number : goal.invariant-loop-number
invariant-loop-number l = vec_len l.free ≡ l.number
