use Rattle.std.specs.Prelude.{List, map}
use Rattle.std.specs.Vec.Iter.{into_iter_items}
use Rattle.jlr_server.specs.Serving.{BeginWith}
use Rattle.jlr_server.proofs.server.joined.Given as goal

abbrev pub invariant-loop-thread : goal.invariant-loop-thread
invariant-loop-thread g l =
    (devices : List g.row.D.Denot) → BeginWith devices (map (λ thread. thread.promise.work.value) l.fn.running.items)
    → BeginWith devices l.back.items
    × BeginWith devices (map (λ thread. thread.promise.work.value) (into_iter_items l.thread-iterator))
