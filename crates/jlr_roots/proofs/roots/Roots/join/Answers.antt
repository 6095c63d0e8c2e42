use Rattle.std.proofs.lemmas.List.{map-set}
use Rattle.jlr_roots.specs.Sessions.{session_in}
use Rattle.jlr_roots.proofs.roots.Roots.join.Goals as goal

pub returns : goal.returns
returns c = rw (← c.self.view_is, ← c.number.ensures, ← c.join.ensures.session) (map-set session_in _ _ _)
