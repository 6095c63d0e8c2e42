use Rattle.std.proofs.Common.{◌≡◌, None, ap}
use Rattle.std.proofs.lemmas.List.{map-set}
use Rattle.jlr_roots.specs.Sessions.{session_in}
use Rattle.jlr_roots.proofs.roots.Roots.leave.Goals as goal

pub returns : goal.returns
returns c =
    let left : session_in c.leave.new.self ≡ None = ap session_in c.leave.ensures in
    rw (← c.self.view_is, ← c.number.ensures, ← left) (map-set session_in _ _ _)
