-- Sets of slots: a place for each, and the slots whose places are set.
use Rattle.std.specs.Prelude.{◌≡◌, ℕ, ◌+◌, ◌*◌, ◌^◌, ◌%◌, ◌<◌, ◌≤◌, Bool, true, false, not, ◌&&◌, List, Option, length}
use Rattle.std.specs.Prelude.{map, slice_index_or, MatchOption}
use Rattle.std.specs.List.{range_with_len, filter}
use Rattle.std.specs.Int.{div_ceil}

-- a number of 32 bits
abbrev pub IsSlotNumber : ℕ → Type 0
IsSlotNumber n = n < 2 ^ 32

-- whether the place is set
abbrev pub is_in : List Bool → ℕ → Bool
is_in places slot = slice_index_or places slot false

-- whether the place is set in the one and not in the other
abbrev pub is_beyond : List Bool → List Bool → ℕ → Bool
is_beyond places others slot = is_in places slot && not (is_in others slot)

-- the places that are set and in the others not
unfoldable pub beyond : List Bool → List Bool → List Bool
beyond places others = map (is_beyond places others) (range_with_len 0 (length places))

-- the places that are not set
unfoldable pub absent : List Bool → List Bool
absent places = map not places

-- the slots below n whose places are set, rising
unfoldable pub slots_below : ℕ → List Bool → List ℕ
slots_below n places = filter (is_in places) (range_with_len 0 n)

-- the slots whose places are set, rising
abbrev pub slots_of : List Bool → List ℕ
slots_of places = slots_below (length places) places

-- how many places the words for so many cells have
abbrev pub places_for : ℕ → ℕ
places_for cells = 64 * div_ceil cells 64

-- no slot from `from` on and below `to` is in the set
abbrev pub NoneBetween : List Bool → ℕ → ℕ → Type 0
NoneBetween places from to = (k : ℕ) → from ≤ k → k < to → is_in places k ≡ false

-- no slot from `from` on is in the set
abbrev pub NoneFrom : List Bool → ℕ → Type 0
NoneFrom places from = (k : ℕ) → from ≤ k → is_in places k ≡ false

-- the first slot at or above `from` that is in the set
pub record IsFirstFrom (places : List Bool) (from slot : ℕ) : Type 0 where
  pub at_least : from ≤ slot
  pub inside : is_in places slot ≡ true
  pub none_before : NoneBetween places from slot

-- that slot is the answer, or None if there is none
abbrev pub FindsFirst : List Bool → ℕ → Option ℕ → Type 0
FindsFirst places from answer = MatchOption answer (NoneFrom places from) (IsFirstFrom places from)

-- there are whole words of places, and one of the last word's is set
pub record IsTrimmed (places : List Bool) : Type 0 where
  pub whole : length places % 64 ≡ 0
  pub last : 0 < length places → (k : ℕ) × (length places ≤ k + 64) × (is_in places k ≡ true)
