use Rattle.jlr_server.proofs.Works.{one_missed}
use Rattle.jlr_server.proofs.worked.Worked.miss.Goals as goal

pub invariant_of-result-2 : goal.invariant_of-result-2
invariant_of-result-2 g c =
    one_missed _ _ _ _ _ _ _ _ (rw (← c.self.view_is) at c.requires.seat) c.self.invariant (rw (← c.self.view_is) at c.requires.fails)
