-- How much a session takes.
use Rattle.std.specs.Prelude.{ℕ, ◌<◌, List, Option, length}
use Rattle.std.specs.Io.KnownBytes.{IsAtEnd}

-- the most lines that it answers
abbrev pub most_lines : ℕ
most_lines = 1000000

-- the most bytes that it takes: 64 times 2^20
abbrev pub most_bytes : ℕ
most_bytes = 67108864

-- the end of the input was found: what is left of it is nothing, and a read could tell so, since fewer bytes were taken
-- than may be
abbrev pub FindsEnd : Option (List ℕ) → List ℕ → Type 0
FindsEnd remaining bytes = IsAtEnd remaining × (length bytes < most_bytes)
