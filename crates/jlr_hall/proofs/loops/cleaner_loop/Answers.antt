use Rattle.jlr_hall.proofs.Turns.{cleans_none}
use Rattle.jlr_hall.proofs.loops.cleaner_loop.Goals.{in-None, in-Some+in_default, in-Some+in-Some-wait_for_line+then-not-clean}
use Rattle.jlr_hall.proofs.loops.cleaner_loop.Goals as goal

pub loop-init : goal.loop-init
loop-init g c = cleans_none g.R.Resource.handling g.L.Limited.limits c.args.seat

pub returns : goal.returns
returns g c = elim c.match-next.branch [
  | in-None w ↦ rw w.seat-is c.loop.invariant
  | in-Some+in_default w ↦ rw w.seat-is c.loop.invariant
  | in-Some+in-Some-wait_for_line+then-not-clean w ↦ rw w.seat-is (w.clean.ensures c.args.seat c.loop.invariant)
]
