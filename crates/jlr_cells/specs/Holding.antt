-- Which objects the cells hold, and how many cells are condemned.
use Rattle.std.specs.Prelude.{◌≡◌, ℕ, ◌+◌, Bool, true, false, List, [], is_some, length, replicate, None}
use Rattle.jlr_machine.specs.Objects.{Heap, at, occupied, some_and}
use Rattle.jlr_sets.specs.SlotSets.{is_in}
use Rattle.jlr_cells.specs.Contents.{is_array, members_in}

-- The objects by slot. Of the cells without an object so many are condemned: what lay there is no object any more, and
-- they are not free yet
pub record Holding : Type 0 where
  pub objects : Heap
  pub condemned : ℕ

-- so many cells, all free
abbrev pub all_free : ℕ → Holding
all_free cells = record { objects = replicate cells None; condemned = 0 }

-- how many cells are not free
abbrev pub cells_in_use : Holding → ℕ
cells_in_use h = occupied h.objects + h.condemned

-- Something lies in each occupied cell. The listed ones are occupied, and the queues elsewhere have no members. No
-- array lies in a free cell: one that is not used
pub record AreShown (store : Heap) (occ used listed : List Bool) : Type 0 where
  pub places : length occ ≡ length store
  pub uses : length used ≡ length store
  pub lists : length listed ≡ length store
  pub objects : (s : ℕ) → is_in occ s ≡ true → is_some (at store s) ≡ true
  pub queues : (s : ℕ) → is_in listed s ≡ true → is_in occ s ≡ true
  pub members : (s : ℕ) → is_in listed s ≡ false → members_in (at store s) ≡ []
  pub free : (s : ℕ) → is_in used s ≡ false → some_and is_array (at store s) ≡ false
