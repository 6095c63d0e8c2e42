use Rattle.std.proofs.Common.{[], ◌∷◌}
use Rattle.std.proofs.lemmas.Result.{err_from_is_err_and}
use Rattle.jlr_wire.specs.Replies.{words}
use Rattle.jlr_wire.proofs.Sending.{line_end, line_cut}
use Rattle.jlr_wire.proofs.reply.write_line.Goals as goal

pub returns-in_err-write_words-clause-line : goal.returns-in_err-write_words-clause-line
returns-in_err-write_words-clause-line g c =
    let p = err_from_is_err_and c.from_residual.result c.from_residual.ensures.1 in
    line_cut (words c.args.answer.now) _ _ c.from_residual.result p.0 (10 ∷ []) p.1 c.in_err-write_words.ensures.line

pub returns-clause-line : goal.returns-clause-line
returns-clause-line g c = line_end (words c.args.answer.now) _ _ _ c.send.result (10 ∷ []) c.in_ok-write_words.ensures.line c.send.ensures
