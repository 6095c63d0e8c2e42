-- What one line is answered, and what goes out.
use Rattle.std.specs.Prelude.{◌≡◌, ◌≢◌, ℕ, nat_lt, if◌then◌else◌, ◌⊎◌, List, [], ◌∷◌, ◌++◌, take, length, Option, Some}
use Rattle.std.specs.Prelude.{None, Result, MatchResult}
use Rattle.std.specs.Io.KnownBytes.{Appends}
use Rattle.jlr_types.specs.declared.Refusal.{Refusal}
use Rattle.jlr_types.specs.declared.Refusal.TheVariants.{Malformed, TooLong}
use Rattle.jlr_machine.specs.declared.ask.Answer.{Answer}
use Rattle.jlr_machine.specs.declared.ask.Answer.TheVariants.{Done, Refused}
use Rattle.jlr_wire.specs.Commands.{IsCommand}
use Rattle.jlr_wire.specs.Replies.{words}
use Rattle.jlr_wire.specs.declared.command.Command.{Command}
use Rattle.jlr_wire.specs.declared.command.Command.TheVariants.{Bye}
use Rattle.jlr_session.specs.Carrying.{Carrying}
use Rattle.jlr_session.specs.declared.shell.SessionEnd.{SessionEnd}
use Rattle.jlr_session.specs.declared.shell.SessionEnd.TheVariants.{Bye as EndsByBye, WriteFault}

-- why bytes that are no command are refused
abbrev pub refusal_of : List ℕ → Refusal
refusal_of bytes = if nat_lt 512 (length bytes) then TooLong else Malformed

-- the line is carried out, or it is bye, or it is refused
abbrev pub AnswersLine : {H : Type 0} → Carrying H → List ℕ → H → Answer → H → Type 0
AnswersLine {H} carries line old answer new =
    ((command : Command) × IsCommand line command × (command ≢ Bye) × carries.command old command answer new)
    ⊎ (IsCommand line Bye × (answer ≡ Done) × (new ≡ old))
    ⊎ (((command : Command) → IsCommand line command → ⊥) × (answer ≡ Refused (refusal_of line)) × (new ≡ old))

-- what was read of a line is carried out, or it is bye, or it is refused
abbrev pub AnswersRead : {H : Type 0} → Carrying H → Result Command Refusal → H → Answer → H → Type 0
AnswersRead carries read old answer new = MatchResult read
    (λ command. ((command ≢ Bye) × carries.command old command answer new)
    ⊎ ((command ≡ Bye) × (answer ≡ Done) × (new ≡ old)))
    (λ refusal. (answer ≡ Refused refusal) × (new ≡ old))

-- the line is answered, and the settling follows its reply
abbrev pub AnswersAndSettles : {H : Type 0} → Carrying H → List ℕ → H → Answer → H → Type 0
AnswersAndSettles {H} carries line old answer new = (next : H) × AnswersLine carries line old answer next
    × carries.settling next new

-- the reply line of an answer, with its end; nothing for an answer that has no line
abbrev pub with_end : Option (List ℕ) → List ℕ
with_end (Some text) = text ++ 10 ∷ []
with_end None = []

abbrev pub reply_line : Answer → List ℕ
reply_line answer = with_end (words answer)

-- known bytes grow by the reply line, or after a fault by a prefix of it
abbrev pub SendsReply : {E : Type 0} → Option (List ℕ) → Option (List ℕ) → Result (Unit {0}) E → Answer → Type 0
SendsReply old new result answer = MatchResult result
    (λ _. (words answer ≢ None) × Appends old new (reply_line answer))
    (λ _. (n : ℕ) × Appends old new (take n (reply_line answer)))

-- one line is answered and settled: the session goes on, or ends by bye. Or the writer fails, and nothing is settled
abbrev pub TurnEnds : {H : Type 0} → Carrying H → List ℕ → H → Option (List ℕ) → Option SessionEnd → H → Option (List ℕ)
    → Type 0
TurnEnds {H} carries line old wrote None new written =
    (answer : Answer) × AnswersAndSettles carries line old answer new × (words answer ≢ None)
    × Appends wrote written (reply_line answer) × (IsCommand line Bye → ⊥)
TurnEnds {H} carries line old wrote (Some EndsByBye) new written =
    IsCommand line Bye × carries.settling old new × Appends wrote written (reply_line Done)
TurnEnds {H} carries line old wrote (Some WriteFault) new written =
    (answer : Answer) × (n : ℕ) × AnswersLine carries line old answer new
    × Appends wrote written (take n (reply_line answer))
TurnEnds {H} carries line old wrote (Some _) new written = ⊥
