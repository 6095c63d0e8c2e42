-- What the parts of a session do. No public clause names these.
use Rattle.std.specs.Prelude.{◌≡◌, ◌≢◌, ℕ, List, [], ◌++◌, length, take, Option, Some, None}
use Rattle.std.specs.Io.KnownBytes.{Appends}
use Rattle.jlr_machine.specs.declared.ask.Answer.TheVariants.{Refused}
use Rattle.jlr_wire.specs.Lines.{HeldLine, begun, AreLines}
use Rattle.jlr_session.specs.Carrying.{Carrying}
use Rattle.jlr_session.specs.Turns.{reply_line, refusal_of}
use Rattle.jlr_session.specs.Sessions.{Speaks, Ended}
use Rattle.jlr_session.specs.declared.shell.SessionEnd.{SessionEnd}
use Rattle.jlr_session.specs.declared.shell.SessionEnd.TheVariants.{End, Truncated, WriteFault}

-- The whole lines of the bytes were answered, count of them, and the reader of lines holds what stands after them.
pub record SoFar {H : Type 0} (carries : Carrying H) (bytes : List ℕ) (held : HeldLine) (count : ℕ) (old : H)
    (out : List ℕ)
    (new : H) : Type 0 where
  pub lines : List (List ℕ)
  pub last : List ℕ
  pub are : AreLines bytes lines last
  pub holds : begun held ≡ take 513 last
  pub counted : length lines ≡ count
  pub speaks : Speaks carries lines old out new

-- a chunk is answered, whatever came before it. That a session ends in a chunk is never because the input is at its end
abbrev pub TakesChunk : {H : Type 0} → Carrying H → HeldLine → ℕ → List ℕ → H → Option (List ℕ) → Option SessionEnd
    → HeldLine
    → ℕ → H → Option (List ℕ) → Type 0
TakesChunk {H} carries held n chunk heap wrote None held' n' heap' written =
    (more : List ℕ) × Appends wrote written more
    × ((bytes : List ℕ) (old : H) (out : List ℕ) → SoFar carries bytes held n old out heap
    → SoFar carries (bytes ++ chunk) held' n' old (out ++ more) heap')
TakesChunk {H} carries held n chunk heap wrote (Some end) held' n' heap' written =
    (more : List ℕ) × Appends wrote written more
    × ((bytes : List ℕ) (old : H) (out : List ℕ) → SoFar carries bytes held n old out heap
    → Ended carries ⊥ end (bytes ++ chunk) old (out ++ more) heap')

-- what is held at the end of the input is refused, and settled
abbrev pub ClosesInput : {H : Type 0} → Carrying H → SessionEnd → HeldLine → H → Option (List ℕ) → H → Option (List ℕ)
    → Type 0
ClosesInput {H} carries End held heap wrote heap' written = (begun held ≡ []) × (heap' ≡ heap)
    × Appends wrote written []
ClosesInput {H} carries Truncated held heap wrote heap' written =
    (begun held ≢ []) × carries.settling heap heap'
    × Appends wrote written (reply_line (Refused (refusal_of (begun held))))
ClosesInput {H} carries WriteFault held heap wrote heap' written =
    (begun held ≢ []) × (heap' ≡ heap) × (n : ℕ)
    × Appends wrote written (take n (reply_line (Refused (refusal_of (begun held)))))
ClosesInput {H} carries _ held heap wrote heap' written = ⊥
