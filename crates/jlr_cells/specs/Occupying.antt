-- Which cells hold an object, and which of the others are condemned or free.
use Rattle.std.specs.Prelude.{◌≡◌, ℕ, ◌+◌, ◌^◌, ◌<◌, Bool, true, List, length, replicate, false}
use Rattle.jlr_sets.specs.SlotSets.{is_in, slots_of}

-- By slot, which cells hold an object, and which are not free. So many are condemned: they hold no object any more, and
-- are not free yet
pub record Occupied : Type 0 where
  pub places : List Bool
  pub used : List Bool
  pub condemned : ℕ

-- how many cells hold an object
abbrev pub taken : Occupied → ℕ
taken o = length (slots_of o.places)

-- so many cells, all free
abbrev pub none_occupied : ℕ → Occupied
none_occupied cells = record { places = replicate cells false; used = replicate cells false; condemned = 0 }

-- The used cells are those that hold an object and those that are condemned. So many are free
pub record AreUsed (o : Occupied) (free : ℕ) : Type 0 where
  pub places : length o.used ≡ length o.places
  pub objects : (s : ℕ) → is_in o.places s ≡ true → is_in o.used s ≡ true
  pub counted : taken o + o.condemned ≡ length (slots_of o.used)
  pub left : free + length (slots_of o.used) ≡ length o.used
  pub few : length o.used < 2 ^ 32
