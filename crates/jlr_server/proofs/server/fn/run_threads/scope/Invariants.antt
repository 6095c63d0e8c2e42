use Rattle.std.specs.Prelude.{List, map}
use Rattle.std.specs.List.{All}
use Rattle.std.specs.Vec.Iter.{into_iter_items}
use Rattle.jlr_server.specs.Serving.{BeginWith, IsUnasked}
use Rattle.jlr_server.proofs.server.fn.run_threads.scope.Given as goal

abbrev pub invariant-loop-work : goal.invariant-loop-work
invariant-loop-work g l = record {
  fresh : All IsUnasked (into_iter_items l.work-iterator);
  begun : (devices : List g.row.D.Denot) → BeginWith devices (into_iter_items l.initial.work-iterator)
      → BeginWith devices (into_iter_items l.work-iterator)
      × BeginWith devices (map (λ thread. thread.promise.work.value) l.running.items);
}
