-- The reply lines that say a refusal.
use Rattle.std.specs.Prelude.{ℕ, cond, List, [], ◌∷◌, ◌++◌, Option, Some, None, codes, decimal}
use Rattle.std.specs.Str.{bytes_eq}
use Rattle.jlr_types.specs.Numbers.{number_of}
use Rattle.jlr_types.specs.declared.Refusal.{Refusal}
use Rattle.jlr_types.specs.declared.Refusal.TheVariants.{NoMemory, HeapFull, NoHandle, HandlesFull, WrongKind, NoField}
use Rattle.jlr_types.specs.declared.Refusal.TheVariants.{WrongType, Null, NoName, NamesFull, Busy, Closed, NoSession}
use Rattle.jlr_types.specs.declared.Refusal.TheVariants.{Exhausted, Malformed, TooLong, NotOut, WouldWait}
use Rattle.jlr_types.specs.declared.Refusal.TheVariants.{ResourcesFull}

-- the line of a refusal: an exclamation mark and its number
abbrev pub line_of : Refusal → List ℕ
line_of refusal = codes "! " ++ decimal (number_of refusal)

-- ---- How lines are read, which no public clause names

-- each line beside its refusal
abbrev pub lines : List (List ℕ × Refusal)
lines =
    (codes "! 1", NoMemory)
    ∷ (codes "! 2", HeapFull)
    ∷ (codes "! 3", NoHandle)
    ∷ (codes "! 4", HandlesFull)
    ∷ (codes "! 5", WrongKind)
    ∷ (codes "! 6", NoField)
    ∷ (codes "! 7", WrongType)
    ∷ (codes "! 8", Null)
    ∷ (codes "! 9", NoName)
    ∷ (codes "! 10", NamesFull)
    ∷ (codes "! 11", Busy)
    ∷ (codes "! 12", Closed)
    ∷ (codes "! 13", NoSession)
    ∷ (codes "! 14", Exhausted)
    ∷ (codes "! 15", Malformed)
    ∷ (codes "! 16", TooLong)
    ∷ (codes "! 17", NotOut)
    ∷ (codes "! 18", WouldWait)
    ∷ (codes "! 19", ResourcesFull)
    ∷ []

-- what stands beside a line
abbrev pub refusal_beside : List ℕ → List (List ℕ × Refusal) → Option Refusal
refusal_beside line [] = None
refusal_beside line (row ∷ rows) = cond (bytes_eq line row.0) (Some row.1) (refusal_beside line rows)

unfoldable pub refusal_in : List ℕ → Option Refusal
refusal_in line = refusal_beside line lines
