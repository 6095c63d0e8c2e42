use Rattle.std.proofs.Common.{◌++◌, ap}
use Rattle.std.specs.Prelude.{codes}
use Rattle.jlr_wire.specs.Replies.{spaced}
use Rattle.jlr_wire.proofs.Sending.{sends_same}
use Rattle.jlr_wire.proofs.reply.write_words.Goals as goal

pub returns-in-Names-clause-line : goal.returns-in-Names-clause-line
returns-in-Names-clause-line g c =
    rw c.in-Names.is
    (sends_same _ _ c.send_names.result _ _ (ap (λ names. codes "list" ++ spaced (λ name. name) names) c.as_slice-in-Names.ensures)
    c.send_names.ensures)
