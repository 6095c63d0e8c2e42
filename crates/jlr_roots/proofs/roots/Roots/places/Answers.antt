use Rattle.std.proofs.Common.{◌≡◌, ◌*◌, length, arith}
use Rattle.std.proofs.lemmas.List.{length-map}
use Rattle.jlr_roots.specs.Sessions.{session_in, sessions_in}
use Rattle.jlr_roots.proofs.Walking.{walked-all, have_tables}
use Rattle.jlr_roots.proofs.roots.Roots.places.Goals as goal

pub returns-clause-walk : goal.returns-clause-walk
returns-clause-walk c =
    let count : 252 * c.len.result ≡ 252 * length (sessions_in c.self.inside.members.items) =
    omega (arith, c.len.ensures, length-map c.self.inside.members.items session_in) in
    rw (← c.self.view_is, count) (walked-all _ (have_tables _ c.self.invariant))
