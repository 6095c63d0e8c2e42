use Rattle.jlr_client.proofs.Saying.{says}
use Rattle.jlr_client.proofs.manual.refusal.refusal_said.Goals as goal

pub returns : goal.returns
returns c = rw c.beside.ensures (says c.args.line.now)
