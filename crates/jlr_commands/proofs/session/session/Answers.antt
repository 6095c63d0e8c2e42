use Rattle.std.proofs.Common.{inr}
use Rattle.jlr_commands.proofs.session.session.Goals as goal

pub returns-in-Ok : goal.returns-in-Ok
returns-in-Ok g c =
    let s = c.in-Ok.ensures.session in
    inr (c.in-Ok.end, c.in-Ok.book, s.0, s.1, c.outcome_of.ensures, s.2, s.3, s.4, s.5)
