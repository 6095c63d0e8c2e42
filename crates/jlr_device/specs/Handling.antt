-- What the calls of a resource may do, and its count of failures.
use Rattle.std.specs.Prelude.{ℕ, List, Result}
use Rattle.jlr_types.specs.declared.Fault.{Fault}
use Rattle.jlr_device.specs.declared.resource.Finished.{Finished}

pub record Handling (R : Type 0) : Type 1 where
  pub count : R → ℕ
  -- the resource and the buffer before, the answer, the buffer and the resource after
  pub reads : R → List ℕ → Result ℕ Fault → List ℕ → R → Type 0
  -- the resource before, the bytes, the answer, and the resource after
  pub writes : R → List ℕ → Result ℕ Fault → R → Type 0
  pub finishes : R → Finished → Type 0
