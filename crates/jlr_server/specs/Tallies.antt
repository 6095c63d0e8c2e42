-- What a server adds up at its end.
use Rattle.std.specs.Prelude.{◌≡◌, []}
use Rattle.jlr_server.specs.declared.server.Tally.{Tally}

-- nothing was added yet
abbrev pub IsNew : {A B C : Type 0} → Tally A B C → Type 0
IsNew tally = (tally.seats.items ≡ []) × (tally.devices.items ≡ []) × (tally.accepts ≡ 0) × (tally.missed ≡ 0)
