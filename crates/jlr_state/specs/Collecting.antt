-- What collections do to the machine that an ask finds, and to its clock.
use Rattle.std.specs.Prelude.{◌≡◌, ℕ, cond, is_some, ◌+◌, ◌<◌, not, IsTrue, List, [], ◌∷◌, length, Option, Some, None}
use Rattle.jlr_machine.specs.declared.machine.Machine.{Machine}
use Rattle.jlr_machine.specs.declared.object.Object.{Object}
use Rattle.jlr_soft.specs.declared.policy.Mode.{Mode}
use Rattle.jlr_soft.specs.declared.policy.Mode.TheVariants.{Policy, ClearAll}
use Rattle.jlr_machine.specs.declared.ask.FullMode.{FullMode}
use Rattle.jlr_machine.specs.declared.ask.FullMode.TheVariants.{Policy as AskedPolicy, ClearAll as AskedClearAll}
use Rattle.jlr_barrier.specs.Graphs.{Clock, counted, made_now}
use Rattle.jlr_machine.specs.Chosen.{Chosen}
use Rattle.jlr_machine.specs.declared.entry.Collected.{Collected}
use Rattle.jlr_machine.specs.Objects.{at, occupied}
use Rattle.jlr_machine.specs.Lookups.{with_new}
use Rattle.jlr_machine.specs.Run.{has_room, with_collection}
use Rattle.jlr_machine.specs.Collection.{IsFullClearing, after_collection}
use Rattle.jlr_machine.specs.Choices.{Choosing}

-- which soft references a collection keeps that is asked for
abbrev pub mode_of : FullMode → Mode
mode_of AskedPolicy = Policy
mode_of AskedClearAll = ClearAll

-- ---- Room for new objects

-- no collection where there is room, else a full one that clears all soft references
abbrev pub MayMakeRoom : Machine → ℕ → Option Collected → Type 0
MayMakeRoom m cells None = IsTrue (has_room m cells)
MayMakeRoom m cells (Some c) = IsTrue (not (has_room m cells)) × IsFullClearing m c.kept c.pending

pub record MakesRoom (m : Machine) (cells : ℕ) (old new : Choosing) (n : Machine) : Type 0 where
  pub asked : MayMakeRoom m cells new.chosen.collected
  pub left : n ≡ with_collection m new.chosen.collected
  pub fresh : new.chosen.fresh ≡ []
  pub same_cells : new.cells ≡ old.cells
  pub counted : (c : Collected) → new.chosen.collected ≡ Some c → occupied n.objects ≡ length c.kept

-- a new object in a free slot, after what made room
pub record Allocates (m : Machine) (o : Object) (new : Choosing) (slot : ℕ) (n : Machine) : Type 0 where
  pub asked : MayMakeRoom m 1 new.chosen.collected
  pub inside : slot < length (with_collection m new.chosen.collected).objects
  pub free : at (with_collection m new.chosen.collected).objects slot ≡ None
  pub fresh : new.chosen.fresh ≡ slot ∷ []
  pub left : n ≡ with_new (with_collection m new.chosen.collected) slot o

-- a full collection leaves no room
pub record FindsNoRoom (m : Machine) (cells : ℕ) (new : Choosing) (n : Machine) : Type 0 where
  pub clearing : Collected
  pub collects : new.chosen ≡ record { collected = Some clearing; fresh = [] }
  pub no_room : IsTrue (not (has_room m cells))
  pub full : IsFullClearing m clearing.kept clearing.pending
  pub too_few : length m.objects < length clearing.kept + cells
  pub left : n ≡ after_collection m clearing.kept clearing.pending

-- ---- The clock of the soft policy, and of cells that were taken since a collection

-- a collection was counted, if there was one
abbrev pub after_collected : Chosen → Clock → Clock
after_collected chosen c = cond (is_some chosen.collected) (counted c) c

-- and new objects were made now
abbrev pub after_fresh : List ℕ → Clock → Clock
after_fresh [] c = c
after_fresh (s ∷ fresh) c = after_fresh fresh (made_now c s)

abbrev pub after_choice : Chosen → Clock → Clock
after_choice chosen c = after_fresh chosen.fresh (after_collected chosen c)
