use Rattle.std.specs.Sync.Mutex.{mutex_guard_value}
use Rattle.jlr_hall.proofs.Turns.{line_there}
use Rattle.jlr_hall.proofs.hall.Hall.wait_for_line.Goals as goal

pub returns : goal.returns
returns g c =
    line_there g.L.Limited.limits c.deref-else-deref.result.now (mutex_guard_value c.wait_while-locked.result) c.deref-else-deref.ensures
    c.has_line.ensures.whole (c.has_line.ensures.line.0 c.if-not-has_line.false)
