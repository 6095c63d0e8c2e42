-- What the start of an open needs, and what it leaves.
use Rattle.std.specs.Prelude.{◌≡◌, ◌<◌, ◌≤◌, ◌+◌, ◌^◌, ℕ, IsTrue, is_some, is_none, [], ◌∷◌, length}
use Rattle.jlr_machine.specs.declared.machine.Machine.{Machine}
use Rattle.jlr_machine.specs.Objects.{at, occupied}
use Rattle.jlr_machine.specs.Lookups.{resource_at}
use Rattle.jlr_machine.specs.Calls.{prepared}
use Rattle.jlr_machine.specs.Choices.{Choosing}
use Rattle.jlr_resource.specs.Resources.{resources}
use Rattle.jlr_cleaner.specs.Cleanings.{Cleanings}
use Rattle.jlr_barrier.specs.Guards.{AreFree}

-- two cells are free, and there are a place for the resource and a number for its action
pub record HasRoomForGuard {R : Type 0} (c : Cleanings R) (m : Machine) (k : ℕ) : Type 0 where
  pub joined : IsTrue (is_some (at m.mutators k))
  pub cells : occupied m.objects + 2 ≤ length m.objects
  pub few : length (resources c.table) < c.table.limit
  pub room : length (resources c.table) < c.table.room
  pub next : c.table.next < 2 ^ 32
  pub number : c.next_action + 1 < 2 ^ 64

-- a guard and its cleanable stand in two cells that were free, with a resource that is Opening at a Rid that none had
pub record Places (m : Machine) (k : ℕ) (old new : Choosing) (rid : ℕ) (n : Machine) : Type 0 where
  pub guard : ℕ
  pub cleanable : ℕ
  pub free : AreFree m.objects guard cleanable
  pub rid_fits : rid < 2 ^ 32
  pub unused : IsTrue (is_none (resource_at m rid))
  pub told : new ≡ record old { chosen = record old.chosen { fresh = guard ∷ cleanable ∷ [] } }
  pub left : n ≡ prepared m k guard cleanable rid
