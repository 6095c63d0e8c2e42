-- The handles of one mutator.
use Rattle.std.specs.Prelude.{◌≡◌, ℕ, Bool, nat_lt, None, length, drop}
use Rattle.jlr_machine.specs.Objects.{Table, at, occupied, first_free}

-- 251 places, of which the first, null, holds nothing
pub record IsHandleTable (handles : Table ℕ) : Type 0 where
  pub place_count : length handles ≡ 251
  pub null : at handles 0 ≡ None

-- fewer than 250 handles are in use
abbrev pub has_handle_room : Table ℕ → Bool
has_handle_room handles = nat_lt (occupied handles) 250

-- the lowest free number
abbrev pub lowest_free : Table ℕ → ℕ
lowest_free handles = first_free 1 (drop 1 handles)
