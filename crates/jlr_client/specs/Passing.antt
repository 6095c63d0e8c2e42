-- Bytes that go from one stream to another, unchanged.
use Rattle.std.specs.Prelude.{ℕ, ◌-◌, List, Option, take, drop}
use Rattle.std.specs.Io.KnownBytes.{Appends, Consumes}
use Rattle.jlr_client.specs.declared.outgoing.Stage.{Stage}

-- the bytes from one place on, up to another
abbrev pub between : List ℕ → ℕ → ℕ → List ℕ
between bytes from to = take (to - from) (drop from bytes)

-- what was read and has not gone on yet, and how far the input is
pub record Waiting : Type 0 where
  pub bytes : List ℕ
  pub stage : Stage

-- what one stream gave is what the other was given
abbrev pub Passes : Option (List ℕ) → Option (List ℕ) → Option (List ℕ) → Option (List ℕ) → Type 0
Passes input rest output shown = (bytes : List ℕ) × Consumes input rest bytes × Appends output shown bytes
