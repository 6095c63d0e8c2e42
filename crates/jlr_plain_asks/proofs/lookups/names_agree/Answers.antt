use Rattle.std.proofs.Common.{sym}
use Rattle.jlr_plain_asks.proofs.Names.{names_differ}
use Rattle.jlr_plain_asks.proofs.lookups.names_agree.Goals as goal

pub returns-then-left-right : goal.returns-then-left-right
returns-then-left-right c = sym (names_differ c.args.left.now c.args.right.now c.if-left-right.true)
