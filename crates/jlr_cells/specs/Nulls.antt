-- What numbers of slots stand for.
use Rattle.std.specs.Prelude.{ℕ, nat_lt, if◌then◌else◌, Option, Some, None}

-- the greatest number stands for null, each other for a slot
abbrev pub link_of : ℕ → Option ℕ
link_of n = if nat_lt n 4294967295 then Some n else None
