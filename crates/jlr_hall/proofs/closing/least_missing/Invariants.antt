use Rattle.std.specs.Prelude.{ℕ, ◌≡◌, ◌<◌, true}
use Rattle.jlr_hall.specs.Closing.{is_there}
use Rattle.jlr_hall.proofs.closing.least_missing.Given as goal

abbrev pub invariant-loop-k : goal.invariant-loop-k
invariant-loop-k g l = (j : ℕ) → j < l.k → is_there j l.seats.items ≡ true
