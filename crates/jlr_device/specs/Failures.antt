-- How calls count their failures.
use Rattle.std.specs.Prelude.{◌≡◌, ℕ, ◌+◌, ◌^◌, ◌<◌, Result, is_err, cond}

-- a fault raises the count by one, and any other answer leaves it
abbrev pub Counts : {T E : Type 0} → ℕ → Result T E → ℕ → Type 0
Counts old result new = new ≡ old + cond (is_err result) 1 0

-- one failure more can be counted
abbrev pub CountsOneMore : ℕ → Type 0
CountsOneMore count = count + 1 < 2 ^ 64

-- the count is at its last value
abbrev pub IsHighest : ℕ → Type 0
IsHighest count = count + 1 ≡ 2 ^ 64
