-- What a full collection needs, and what it does to the machine and tells the choice.
use Rattle.std.specs.Prelude.{◌≡◌, ℕ, Bool, false, List, [], length}
use Rattle.jlr_machine.specs.declared.machine.Machine.{Machine}
use Rattle.jlr_machine.specs.Objects.{occupied}
use Rattle.jlr_machine.specs.Edges.{roots}
use Rattle.jlr_machine.specs.Collection.{IsFull, after_collection}
use Rattle.jlr_machine.specs.Choices.{Choosing, collecting}
use Rattle.jlr_laws.specs.Laws.{IsFullMarking}

-- the machine with its cycle closed
abbrev pub closed : Machine → Machine
closed m = record m { cycle_open = false; seen = [] }

-- A full collection of m that leaves n: it keeps the least set that holds the roots and is closed under strong edges
-- and under the soft edges of those members that are kept, and the choice says so
pub record Collects (kept_soft : ℕ → Bool) (m : Machine) (old new : Choosing) (n : Machine) : Type 0 where
  pub kept : List ℕ
  pub pending : List ℕ
  pub chosen : new ≡ collecting old kept pending
  pub marked : IsFullMarking kept_soft m.objects (roots m) kept pending
  pub full : IsFull m kept pending
  pub left : n ≡ after_collection m kept pending
  pub counted : occupied n.objects ≡ length kept
