use Rattle.jlr_wire.specs.Replies.{words}
use Rattle.jlr_session.proofs.Sent.{sent_then_kept}
use Rattle.jlr_session.proofs.turn.reply.Goals as goal

pub returns-then-is_err : goal.returns-then-is_err
returns-then-is_err g c =
    sent_then_kept (words c.args.answer.now) _ _ _ c.in_ok-write_reply.ensures.line c.in_ok-write_reply.ensures.none c.flush.ensures.bytes
