-- What one call of feed does.
use Rattle.std.specs.Prelude.{◌≡◌, ◌+◌, ◌-◌, ◌≤◌, ◌<◌, ℕ, true, false, List, [], ◌∷◌, ◌++◌, length, take}
use Rattle.jlr_wire.specs.Lines.{HeldLine, begun, IsInLine}
use Rattle.jlr_wire.specs.declared.pieces.Got.{Got}
use Rattle.jlr_wire.specs.declared.pieces.Got.TheVariants.{More, Line, TooLong}
use Rattle.jlr_wire.specs.declared.pieces.LineAt.{LineAt}
use Rattle.jlr_wire.specs.declared.pieces.LineAt.TheVariants.{Nowhere, Bytes, Held as HeldOf}

-- No byte ends a line: all go on the line under way.
pub record Continues (old : HeldLine) (bytes : List ℕ) (used : ℕ) (new : HeldLine) : Type 0 where
  pub whole : used ≡ length bytes
  pub in_line : IsInLine bytes
  pub under_way : new.ended ≡ false
  pub held : new.bytes ≡ take 513 (begun old ++ bytes)

-- The first end of a line ends the line under way, which is as long as fits says.
pub record EndsHeldLine (fits : ℕ → Type 0) (old : HeldLine) (bytes : List ℕ) (used : ℕ) (new : HeldLine) : Type 0 where
  pub front : List ℕ
  pub rest : List ℕ
  pub cut : bytes ≡ front ++ 10 ∷ rest
  pub taken : used ≡ length front + 1
  pub in_line : IsInLine front
  pub size : fits (length (begun old ++ front))
  pub ended : new.ended ≡ true
  pub held : new.bytes ≡ take 513 (begun old ++ front)

-- what came of the bytes, and how many of them were used
abbrev pub Feeds : HeldLine → List ℕ → ℕ → Got → HeldLine → Type 0
Feeds old bytes used More new = Continues old bytes used new
Feeds old bytes used Line new = EndsHeldLine (λ n. n ≤ 512) old bytes used new
Feeds old bytes used TooLong new = EndsHeldLine (λ n. 512 < n) old bytes used new

-- where a line lies that ended in the bytes: in them before its end, or what is held of it
abbrev pub line_at : LineAt → ℕ → List ℕ → HeldLine → List ℕ
line_at Bytes used bytes held = take (used - 1) bytes
line_at _ used bytes held = held.bytes

-- The first end of a line ends the line under way, of which the first 513 bytes are given; nothing of a line under way
-- is held then.
pub record EndsLine (old : HeldLine) (bytes : List ℕ) (used : ℕ) (line : List ℕ) (new : HeldLine) : Type 0 where
  pub front : List ℕ
  pub rest : List ℕ
  pub cut : bytes ≡ front ++ 10 ∷ rest
  pub taken : used ≡ length front + 1
  pub in_line : IsInLine front
  pub given : line ≡ take 513 (begun old ++ front)
  pub begins : begun new ≡ []

-- what came of the bytes, how many of them were used, and where the line lies that ended
abbrev pub FindsLine : HeldLine → List ℕ → ℕ → LineAt → HeldLine → Type 0
FindsLine old bytes used Nowhere new = Continues old bytes used new
FindsLine old bytes used Bytes new = EndsLine old bytes used (line_at Bytes used bytes new) new
FindsLine old bytes used HeldOf new = EndsLine old bytes used (line_at HeldOf used bytes new) new
