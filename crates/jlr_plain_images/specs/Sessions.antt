-- The test of mutators and names.
use Rattle.std.specs.Prelude.{ℕ, Bool, true, not, ◌&&◌, List, [], ◌∷◌, length, nat_eq, nat_le, is_none}
use Rattle.std.specs.List.{list_all}
use Rattle.jlr_machine.specs.declared.machine.Machine.{Machine}
use Rattle.jlr_machine.specs.declared.machine.Session.{Session}
use Rattle.jlr_machine.specs.declared.machine.Binding.{Binding}
use Rattle.jlr_machine.specs.declared.machine.Call.{Call}
use Rattle.jlr_machine.specs.declared.machine.Call.TheVariants.{Opening}
use Rattle.jlr_machine.specs.Objects.{at, occupied}
use Rattle.jlr_machine.specs.Lookups.{same_name}
use Rattle.jlr_plain_images.specs.Places.{none_or}

-- a mutator that opens something has room for its handle
abbrev pub opening_has_room : Session → Call → Bool
opening_has_room s (Opening rid) = nat_le (occupied s.handles) 249
opening_has_room s _ = true

-- handles are 1 to 250
abbrev pub session_fits : Session → Bool
session_fits s = nat_eq (length s.handles) 251 && is_none (at s.handles 0) && opening_has_room s s.call

-- none of these has the name
abbrev pub is_new_name : List ℕ → List Binding → Bool
is_new_name name names = list_all (λ b. not (same_name name b.name)) names

-- no two names are the same
abbrev pub names_differ : List Binding → Bool
names_differ [] = true
names_differ (b ∷ names) = is_new_name b.name names && names_differ names

-- all that is asked of mutators and names
abbrev pub sessions_fit : Machine → Bool
sessions_fit m = list_all (none_or session_fits) m.mutators && names_differ m.names && nat_le (length m.names) 256
