-- What was chosen in one entry.
use Rattle.std.specs.Prelude.{ℕ, List, Option}
use Rattle.jlr_machine.specs.declared.entry.Collected.{Collected}

-- what the collection did, where there was one, and the slots of new objects, a guard before its cleanable
pub record Chosen : Type 0 where
  pub collected : Option Collected
  pub fresh : List ℕ
