-- What a reader of lines gives over many calls.
use Rattle.std.specs.Prelude.{◌≡◌, ℕ, Bool, true, false, nat_lt, List, [], ◌∷◌, length, take, map}
use Rattle.std.specs.List.{flat_map}
use Rattle.jlr_wire.specs.Lines.{HeldLine, begun, nothing_held, AreLines}
use Rattle.jlr_wire.specs.Feeding.{Feeds}
use Rattle.jlr_wire.specs.declared.pieces.Got.{Got}
use Rattle.jlr_wire.specs.declared.pieces.Got.TheVariants.{More, Line, TooLong}

-- A call of feed: the bytes that were offered, how many it used, its answer, and what is held after it.
pub record Call : Type 0 where
  pub offered : List ℕ
  pub used : ℕ
  pub got : Got
  pub after : HeldLine

-- the calls follow one another, whatever bytes each was offered
abbrev pub Follow : HeldLine → List Call → Type 0
Follow held [] = Unit {0}
Follow held (call ∷ calls) = Feeds held call.offered call.used call.got call.after × Follow call.after calls

-- the bytes that were used
abbrev pub used_bytes : List Call → List ℕ
used_bytes calls = flat_map (λ call. take call.used call.offered) calls

-- What shows of a line: its first 513 bytes, and whether it is too long.
pub record Shown : Type 0 where
  pub bytes : List ℕ
  pub too_long : Bool

-- what shows of a line
abbrev pub shown_line : List ℕ → Shown
shown_line line = record { bytes = take 513 line; too_long = nat_lt 512 (length line) }

-- what a call shows of the line that it ended, if it ended one
abbrev pub shown_by_call : Got → HeldLine → List Shown
shown_by_call More after = []
shown_by_call Line after = record { bytes = after.bytes; too_long = false } ∷ []
shown_by_call TooLong after = record { bytes = after.bytes; too_long = true } ∷ []

-- what the calls show, one line after the other
abbrev pub shown_by_calls : List Call → List Shown
shown_by_calls calls = flat_map (λ call. shown_by_call call.got call.after) calls

-- what is held after the calls
abbrev pub held_after : HeldLine → List Call → HeldLine
held_after held [] = held
held_after held (call ∷ calls) = held_after call.after calls

-- The bytes are these lines, shown in this order, and then the bytes of which the reader holds the first 513.
pub record ReadsLines (bytes : List ℕ) (seen : List Shown) (held : HeldLine) : Type 0 where
  pub lines : List (List ℕ)
  pub last : List ℕ
  pub are : AreLines bytes lines last
  pub shows : seen ≡ map shown_line lines
  pub holds : begun held ≡ take 513 last

-- the lines of a stream do not depend on the pieces in which it comes
abbrev pub CutsDoNotMatter : Type 0
CutsDoNotMatter = (calls : List Call) → Follow nothing_held calls
    → ReadsLines (used_bytes calls) (shown_by_calls calls) (held_after nothing_held calls)

-- bytes have no second list of lines
abbrev pub LinesAreUnique : Type 0
LinesAreUnique = (bytes : List ℕ) (lines other : List (List ℕ)) (last other_last : List ℕ)
    → AreLines bytes lines last → AreLines bytes other other_last → (lines ≡ other) × (last ≡ other_last)
