-- What lines a list of bytes has, and what a reader of lines holds.
use Rattle.std.specs.Prelude.{◌≡◌, ◌≢◌, ℕ, Bool, false, cond, List, [], ◌∷◌, ◌++◌}
use Rattle.std.specs.List.{All, flat_map}

-- the byte does not occur
abbrev pub IsWithout : ℕ → List ℕ → Type 0
IsWithout byte bytes = All (λ b. b ≢ byte) bytes

-- no byte of it ends a line
abbrev pub IsInLine : List ℕ → Type 0
IsInLine = IsWithout 10

-- these lines, each with its end
abbrev pub ended_lines : List (List ℕ) → List ℕ
ended_lines lines = flat_map (λ line. line ++ 10 ∷ []) lines

-- The bytes are these lines, each with its end, and then the bytes of a line that has not ended.
pub record AreLines (bytes : List ℕ) (lines : List (List ℕ)) (last : List ℕ) : Type 0 where
  pub joined : bytes ≡ ended_lines lines ++ last
  pub each : All IsInLine lines
  pub open_end : IsInLine last

-- A reader of lines: the first 513 bytes of the line under way or just ended, and whether it has ended.
pub record HeldLine : Type 0 where
  pub bytes : List ℕ
  pub ended : Bool

-- before the first byte
abbrev pub nothing_held : HeldLine
nothing_held = record { bytes = []; ended = false }

-- what is held of the line under way
abbrev pub begun : HeldLine → List ℕ
begun held = cond held.ended [] held.bytes
