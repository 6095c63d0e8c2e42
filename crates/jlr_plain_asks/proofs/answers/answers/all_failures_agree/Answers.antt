use Rattle.std.proofs.Common.{sym}
use Rattle.std.specs.Cmp.Lexicographic.{unequal}
use Rattle.jlr_laws.specs.Same.{same_failure}
use Rattle.jlr_plain_asks.proofs.answers.answers.all_failures_agree.Goals as goal

pub returns-then-left-right : goal.returns-then-left-right
returns-then-left-right c = sym (unequal same_failure c.args.left.now c.args.right.now c.if-left-right.true)
