-- What was read of a line, and what the line is answered.
use Rattle.std.proofs.Common.{◌≡◌, ◌↔◌, ℕ, List, inl, inr, refl, ap, subst, ◌∙◌}
use Rattle.std.specs.Prelude.{Result, Ok, Err, IfErr}
use Rattle.jlr_types.specs.declared.Refusal.{Refusal}
use Rattle.jlr_machine.specs.declared.ask.Answer.{Answer}
use Rattle.jlr_machine.specs.declared.ask.Answer.TheVariants.{Done, Refused}
use Rattle.jlr_wire.specs.Commands.{IsCommand}
use Rattle.jlr_wire.specs.declared.command.Command.{Command}
use Rattle.jlr_wire.specs.declared.command.Command.TheVariants.{Bye}
use Rattle.jlr_session.specs.Carrying.{Carrying}
use Rattle.jlr_session.specs.Turns.{AnswersLine, AnswersRead, refusal_of}

pub answers_read : {H : Type 0} (carries : Carrying H) (line : List ℕ) (read : Result Command Refusal) (old : H) (answer : Answer) (new : H)
    → ((c : Command) → (read ≡ Ok c) ↔ IsCommand line c) → IfErr read (λ e. e ≡ refusal_of line) → AnswersRead carries read old answer new
    → AnswersLine carries line old answer new
answers_read carries line (Ok command) old answer new exact refused (inl carried) =
    inl (command, (exact command).0 refl, carried.0, carried.1)
answers_read carries line (Ok command) old answer new exact refused (inr bye) =
    inr (inl (subst (IsCommand line) bye.0 ((exact command).0 refl), bye.1, bye.2))
answers_read carries line (Err refusal) old answer new exact refused h =
    inr (inr (λ c is. (let e = (exact c).1 is in absurd cc), h.0 ∙ ap Refused refused, h.1))

-- where the line is bye, nothing but an `ok` came of it
pub answers_bye : {H : Type 0} (carries : Carrying H) (read : Result Command Refusal) (old : H) (answer : Answer) (new : H)
    → read ≡ Ok Bye → AnswersRead carries read old answer new → (answer ≡ Done) × (new ≡ old)
answers_bye carries (Ok command) old answer new is (inl carried) = absurd (carried.0 (let e : command ≡ Bye = cc in e))
answers_bye carries (Ok command) old answer new is (inr bye) = (bye.1, bye.2)
answers_bye carries (Err refusal) old answer new is h = absurd cc

-- a settling from where nothing but an `ok` came
pub settles_from : {H : Type 0} (carries : Carrying H) (old mid new : H) → mid ≡ old → carries.settling mid new → carries.settling old new
settles_from carries old mid new same h = subst (λ x. carries.settling x new) same h
