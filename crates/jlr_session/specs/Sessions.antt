-- What a session says: its lines are answered one after the other.
use Rattle.std.specs.Prelude.{◌≡◌, ◌≢◌, ℕ, ◌<◌, ◌⊎◌, List, [], ◌∷◌, ◌++◌, length, take, None, codes}
use Rattle.std.specs.List.{All}
use Rattle.jlr_machine.specs.declared.ask.Answer.{Answer}
use Rattle.jlr_machine.specs.declared.ask.Answer.TheVariants.{Done, Refused}
use Rattle.jlr_wire.specs.Lines.{IsInLine, ended_lines}
use Rattle.jlr_wire.specs.Commands.{IsCommand}
use Rattle.jlr_wire.specs.Replies.{words}
use Rattle.jlr_wire.specs.declared.command.Command.TheVariants.{Bye}
use Rattle.jlr_session.specs.Carrying.{Carrying}
use Rattle.jlr_session.specs.Limits.{most_lines}
use Rattle.jlr_session.specs.Turns.{AnswersLine, AnswersAndSettles, reply_line, refusal_of}
use Rattle.jlr_session.specs.declared.shell.SessionEnd.{SessionEnd}
use Rattle.jlr_session.specs.declared.shell.SessionEnd.TheVariants.{Bye as EndsByBye, End, Truncated, ReadFault}
use Rattle.jlr_session.specs.declared.shell.SessionEnd.TheVariants.{WriteFault, TooManyLines, NotJoined}

-- the lines are answered in turn, each by one reply line, which a settling follows; and none of them is bye
abbrev pub Speaks : {H : Type 0} → Carrying H → List (List ℕ) → H → List ℕ → H → Type 0
Speaks {H} carries [] old out new = (out ≡ []) × (new ≡ old)
Speaks {H} carries (line ∷ lines) old out new =
    (answer : Answer) × (next : H) × (later : List ℕ)
    × AnswersAndSettles carries line old answer next × (words answer ≢ None) × (IsCommand line Bye → ⊥)
    × (out ≡ reply_line answer ++ later) × Speaks carries lines next later new

-- The bytes begin with these lines, which were answered; the rest is still to be answered.
pub record AnsweredLines {H : Type 0} (carries : Carrying H) (bytes : List ℕ) (lines : List (List ℕ)) (rest : List ℕ)
    (old : H) (out : List ℕ) (new : H) : Type 0 where
  pub joined : bytes ≡ ended_lines lines ++ rest
  pub each : All IsInLine lines
  pub speaks : Speaks carries lines old out new

-- an answer that is due where these bytes are still to be answered: that of the next line, or, once the input is at its
-- end, a refusal of what has no end of its line
abbrev pub IsAnswerDue : {H : Type 0} → Carrying H → Type 0 → List ℕ → H → Answer → H → Type 0
IsAnswerDue {H} carries at_end rest old answer new =
    ((line : List ℕ) × (later : List ℕ) × (rest ≡ line ++ 10 ∷ later) × IsInLine line
    × AnswersLine carries line old answer new)
    ⊎ (at_end × (rest ≢ []) × IsInLine rest × (answer ≡ Refused (refusal_of rest)) × (new ≡ old))

-- what the bytes that were read came to, where at_end says that the input is at its end. A settling follows each reply
-- that went out, that of bye and the refusal at the end of the input among them
abbrev pub Ended : {H : Type 0} → Carrying H → Type 0 → SessionEnd → List ℕ → H → List ℕ → H → Type 0
Ended {H} carries at_end EndsByBye bytes old out new =
    (lines : List (List ℕ)) × (later : List ℕ) × (said : List ℕ) × (before : H)
    × AnsweredLines carries bytes lines (codes "bye" ++ 10 ∷ later) old said before × (length lines < most_lines)
    × carries.settling before new × (out ≡ said ++ reply_line Done)
Ended {H} carries at_end End bytes old out new =
    at_end × (lines : List (List ℕ)) × AnsweredLines carries bytes lines [] old out new × (length lines < most_lines)
Ended {H} carries at_end Truncated bytes old out new =
    at_end × (lines : List (List ℕ)) × (last : List ℕ) × (said : List ℕ) × (before : H)
    × AnsweredLines carries bytes lines last old said before × (length lines < most_lines) × (last ≢ []) × IsInLine last
    × carries.settling before new × (out ≡ said ++ reply_line (Refused (refusal_of last)))
Ended {H} carries at_end ReadFault bytes old out new =
    (lines : List (List ℕ)) × (last : List ℕ) × AnsweredLines carries bytes lines last old out new
    × (length lines < most_lines) × IsInLine last
Ended {H} carries at_end WriteFault bytes old out new =
    (lines : List (List ℕ)) × (rest : List ℕ) × (said : List ℕ) × (before : H) × (answer : Answer) × (n : ℕ)
    × AnsweredLines carries bytes lines rest old said before × (length lines < most_lines)
    × IsAnswerDue carries at_end rest before answer new
    × (out ≡ said ++ take n (reply_line answer))
Ended {H} carries at_end TooManyLines bytes old out new =
    (lines : List (List ℕ)) × (rest : List ℕ) × AnsweredLines carries bytes lines rest old out new
    × (length lines ≡ most_lines)
Ended {H} carries at_end (NotJoined by) bytes old out new = ⊥
