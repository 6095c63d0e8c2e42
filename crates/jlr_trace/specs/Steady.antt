-- What is read from a beginning of the bytes is read from all of them.
use Rattle.std.specs.Prelude.{◌≡◌, ℕ, List, ◌++◌, Result, Ok, Err}
use Rattle.jlr_trace_fields.specs.declared.fault.Fault.{Fault}
use Rattle.jlr_trace_fields.specs.declared.fault.Fault.TheVariants.{Short, Range}
use Rattle.jlr_trace_fields.specs.Reading.{Reader}

-- what reading gives, with more bytes behind: the same value, and they stand behind what is left; or a value out of
-- range. Only that bytes are missing may turn out otherwise
abbrev pub StillReads : {A : Type 0} → List ℕ → Result (A × List ℕ) Fault → Result (A × List ℕ) Fault → Type 0
StillReads more (Ok x) longer = longer ≡ Ok (x.0, x.1 ++ more)
StillReads more (Err Short) longer = Unit {0}
StillReads more (Err Range) longer = longer ≡ Err Range

pub record IsSteady {A : Type 0} (read : Reader A) : Type 0 where
  pub still : (bytes more : List ℕ) → StillReads more (read bytes) (read (bytes ++ more))
