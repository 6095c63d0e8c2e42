use Rattle.jlr_server.proofs.Works.{no_work}
use Rattle.jlr_server.proofs.worked.Worked.new.Goals as goal

pub invariant_of-result : goal.invariant_of-result
invariant_of-result g c = rw c.of-first.ensures (no_work _ _ _ _ _ _ _ c.args.seat c.args.device c.requires.fresh c.requires.device)
