-- What a line that was typed asks for.
use Rattle.std.specs.Prelude.{◌≡◌, ℕ, Bool, true, false, ◌||◌, List, drop, length, take, codes}
use Rattle.std.specs.Str.{bytes_eq}
use Rattle.jlr_client.specs.declared.typed.Typed.{Typed}
use Rattle.jlr_client.specs.declared.typed.Typed.TheVariants.{Line, Help, HelpOf, Save, Quit, Unknown}

-- a line for the client itself begins with a dot, or its first word is `help`
abbrev pub is_for_client : List ℕ → Bool
is_for_client line = bytes_eq (take 1 line) (codes ".") || bytes_eq line (codes "help")
    || bytes_eq (take 5 line) (codes "help ")

-- A line of which the client carries out just this word, or this word and what follows it.
abbrev pub IsTypedWord : List ℕ → List ℕ → Type 0
IsTypedWord word line = bytes_eq line word ≡ true

abbrev pub BeginsWith : List ℕ → List ℕ → List ℕ → Type 0
BeginsWith word line rest = (bytes_eq (take (length word) line) word ≡ true) × (rest ≡ drop (length word) line)

-- it is none of those
abbrev pub IsNoWord : List ℕ → Type 0
IsNoWord line =
    (bytes_eq line (codes "help") ≡ false) × (bytes_eq line (codes ".quit") ≡ false)
    × (bytes_eq (take 5 line) (codes "help ") ≡ false) × (bytes_eq (take 6 line) (codes ".save ") ≡ false)

abbrev pub IsOwnWord : List ℕ → Typed → Type 0
IsOwnWord line (Line sent) = ⊥
IsOwnWord line Help = IsTypedWord (codes "help") line
IsOwnWord line (HelpOf word) = BeginsWith (codes "help ") line word.now
IsOwnWord line (Save file) = BeginsWith (codes ".save ") line file.now
IsOwnWord line Quit = IsTypedWord (codes ".quit") line
IsOwnWord line Unknown = IsNoWord line

-- What goes to the server is what was typed, and no line for the client is; what the client does is what was typed.
abbrev pub IsMeant : List ℕ → Typed → Type 0
IsMeant line (Line sent) = (sent.now ≡ line) × (is_for_client line ≡ false)
IsMeant line typed = (is_for_client line ≡ true) × IsOwnWord line typed
