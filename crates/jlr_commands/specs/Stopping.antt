-- What a server says that was asked to end.
use Rattle.std.specs.Prelude.{◌≡◌, ℕ, Bool, List, [], ◌∷◌, ◌++◌, Option, IsTrue}
use Rattle.std.specs.Io.KnownBytes.{Consumes}
use Rattle.jlr_commands.specs.declared.stop.Heard.{Heard}
use Rattle.jlr_commands.specs.declared.stop.Heard.TheVariants.{Said, Nothing, Over}

abbrev pub said_in : Heard → List ℕ
said_in (Said byte) = byte ∷ []
said_in Nothing = []
said_in Over = []

-- it said something, and last, if it is taken to have ended well, a full stop
abbrev pub EndsWell : Option (List ℕ) → Option (List ℕ) → Bool → Type 0
EndsWell input rest well = (said : List ℕ) × Consumes input rest said
    × (IsTrue well → (front : List ℕ) × (said ≡ front ++ 46 ∷ []))
