use Rattle.std.proofs.Common.{rules, ◌≡◌, None, true, false}
use Rattle.std.specs.Prelude.{is_err, Ok}
use Rattle.jlr_wire.specs.declared.command.Command.TheVariants.{Bye}
use Rattle.jlr_session.proofs.Reading.{answers_read, answers_bye, settles_from}
use Rattle.jlr_session.proofs.Sent.{went_as, went_out, went_in_part}
use Rattle.jlr_session.proofs.turn.answer_line.Goals as goal
use Rattle.jlr_session.proofs.turn.answer_line.Goals.{in_default, in_default-2}

pub returns-then-is_err : goal.returns-then-is_err
returns-then-is_err g c =
    let failed : is_err c.reply.result ≡ true = search rules in
    let sent = went_in_part _ _ c.reply.result c.answer_of.new.answer c.reply.ensures failed in
    let read = c.read_command-read.ensures in
    (c.answer_of.new.answer, sent.0, answers_read g.C.CarryOut.carries _ _ _ _ _ read.exact read.refused c.answer_of.ensures, sent.1)

pub returns-in-Ok-Bye : goal.returns-in-Ok-Bye
returns-in-Ok-Bye g c =
    let ok : is_err c.reply.result ≡ false = search rules in
    let sent = went_out _ _ c.reply.result c.answer_of.new.answer c.reply.ensures ok in
    let last : c.read_command-read.result ≡ Ok Bye = search rules in
    let bye = answers_bye g.C.CarryOut.carries _ _ _ _ last c.answer_of.ensures in (
      (c.read_command-read.ensures.exact Bye).0 last,
      settles_from g.C.CarryOut.carries _ (c.answer_of.new.heap, c.answer_of.new.device) _ bye.1 (c.settle.ensures c.answer_of.new.device),
      went_as _ _ _ _ bye.0 sent.1,
    )

pub returns : goal.returns
returns g c =
    let ok : is_err c.reply.result ≡ false = search rules in
    let sent = went_out _ _ c.reply.result c.answer_of.new.answer c.reply.ensures ok in
    let read = c.read_command-read.ensures in
    let going : (c.read_command-read.result ≡ Ok Bye → ⊥) × (c.match-read.result ≡ None) =
    elim c.match-read.branch [
      | in_default w ↦ search rules
      | in_default-2 w ↦ search rules
    ] in rw going.1 (
      c.answer_of.new.answer,
      (
        (c.answer_of.new.heap, c.answer_of.new.device),
        answers_read g.C.CarryOut.carries _ _ _ _ _ read.exact read.refused c.answer_of.ensures,
        c.settle.ensures c.answer_of.new.device,
      ),
      sent.0,
      sent.1,
      λ b. going.0 ((read.exact Bye).1 b),
    )
