use Rattle.std.specs.Sync.Mutex.{mutex_guard_value}
use Rattle.jlr_hall.specs.Loops.{IsMarkers}
use Rattle.jlr_hall.proofs.Turns.{asks_none, due_there}
use Rattle.jlr_hall.proofs.loops.marker_loop.Goals as goal

pub loop-init : goal.loop-init
loop-init g c = asks_none g.L.Limited.limits (IsMarkers g.L.Limited.limits c.args.budget) c.args.seat

pub begin-requires : goal.begin-requires
begin-requires g c =
    due_there g.L.Limited.limits c.deref.result.now (mutex_guard_value c.in-Some-wait_for_marking.locked) c.deref.ensures
    c.is_due.ensures.whole (c.is_due.ensures.due.0 c.if-is_due.true)
