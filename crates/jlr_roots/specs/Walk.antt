-- The places of all mutators, one after another, 252 each: the handles, and last the fence.
use Rattle.std.specs.Prelude.{ℕ, zero, suc, ◌/◌, ◌%◌, ◌==◌, if◌then◌else◌, List, [], ◌++◌, Option, option_and_then}
use Rattle.std.specs.Prelude.{option_to_list, filter_map}
use Rattle.std.specs.List.{flat_map}
use Rattle.jlr_machine.specs.declared.machine.Session.{Session}
use Rattle.jlr_machine.specs.Objects.{Table, at}

-- what a session holds by its handles and its fence
abbrev pub slots_of_session : Session → List ℕ
slots_of_session s = filter_map (λ h. h) s.handles ++ option_to_list s.fence

-- what all mutators hold
abbrev pub slots_held : Table Session → List ℕ
slots_held mutators = flat_map slots_of_session (filter_map (λ s. s) mutators)

-- the slot at a place of a session
abbrev pub slot_at : ℕ → Session → Option ℕ
slot_at place s = if place == 251 then s.fence else at s.handles place

-- the root at a place
abbrev pub root_at : Table Session → ℕ → Option ℕ
root_at mutators place = option_and_then (slot_at (place % 252)) (at mutators (place / 252))

-- the roots at the places below
unfoldable pub walked : Table Session → ℕ → List ℕ
walked mutators zero = []
walked mutators (suc place) = walked mutators place ++ option_to_list (root_at mutators place)
