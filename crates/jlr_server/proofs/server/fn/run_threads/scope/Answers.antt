use Rattle.std.proofs.Common.{◌≡◌, rules, ap, ◌∙◌}
use Rattle.std.specs.Prelude.{slice_get}
use denote.Param.{param}
use denote.Param.Send.{IsSend, IsSync, sendable}
use Rattle.jlr_hall.specs.contracts.hall.Hall as hall
use Rattle.jlr_hall.specs.contracts.seat.Seat as seat
use Rattle.jlr_hall.proofs.hall.Hall.TheSendSync as halls
use Rattle.jlr_hall.proofs.seat.Seat.TheSendSync as seats
use Rattle.jlr_server.proofs.accepts.Accepts.TheSendSync as accepts
use Rattle.std.specs.Vec.Iter.{into_iter_items}
use Rattle.std.proofs.lemmas.List.Elements.{All-rest}
use Rattle.jlr_server.specs.Serving.{IsUnasked}
use Rattle.jlr_server.proofs.Sends.{option_owned}
use Rattle.jlr_server.proofs.Begins.{one_runs}
use Rattle.jlr_server.proofs.server.fn.run_threads.scope.Goals as goal

-- a seat's work goes to another thread, field by field
pub spawn_with-requires-send-T : goal.spawn_with-requires-send-T
spawn_with-requires-send-T g c κs within =
    let seat : IsSend (seat.the_row (param 7 g.row.D-Res) (param 2 g.row.L) g.L.Naming g.L.Limited) = search (sendable, seats.the_send) in
    let device : IsSend (param 1 g.row.D) = search (sendable, c.requires.rows.4) in
    record {
      owned = λ d vs ls. (
        (λ fs. (
          tt,
          (
            seat.owned ls.0.seat fs.0,
            (
              search rules,
              (
                option_owned (param 1 g.row.D) device ls.0.device vs,
                (
                  search rules,
                  (search rules, (search rules, tt)),
                ),
              ),
            ),
          ),
        )),
        tt,
      );
      leaving = search rules;
    }

-- so does what the thread is told to do with it
pub spawn_with-requires-send-F : goal.spawn_with-requires-send-F
spawn_with-requires-send-F g c κs within =
    let hall : IsSync (hall.the_row (param 7 g.row.D-Res) (param 2 g.row.L) g.L.Naming g.L.Limited) =
    search (sendable, halls.the_sync, c.requires.rows.7, c.requires.rows.1, c.requires.rows.2) in
    record {
      owned = λ x vs fs. (
        tt,
        (
          (tt, c.requires.rows.0.shared _ _ _ _),
          (
            (tt, hall.shared x.1.now x.1.ref_ptr.0 x.1.ref_ptr.1 _),
            (
              (tt, c.requires.rows.3.shared _ _ _ _),
              (
                (tt, accepts.the_sync.shared x.3.now x.3.ref_ptr.0 x.3.ref_ptr.1 _),
                ((spawn_with-requires-send-T g c κs within).owned x.4 vs, tt),
              ),
            ),
          ),
        ),
      );
      leaving = search rules;
    }

pub loop-work-preserved-then-is_added : goal.loop-work-preserved-then-is_added
loop-work-preserved-then-is_added g c = record {
  fresh = All-rest IsUnasked c.in-Some.work (into_iter_items c.next.new.self) (into_iter_items c.loop-work.work-iterator)
      c.in-Some.ensures.steps.0 c.loop-work.invariant.fresh;
  begun = λ devices began.
      one_runs _ devices c.in-Some.work (into_iter_items c.loop-work.work-iterator) (into_iter_items c.next.new.self)
      c.loop-work.running.items c.is_added.new.list.items c.in-Ok-spawn_with.thread c.is_added.result c.in-Some.ensures.steps.0
      c.is_added.ensures (ap (λ p. p.work.value) c.in-Ok-spawn_with.ensures.ok ∙ c.of.ensures) (c.loop-work.invariant.begun devices began);
}

pub loop-work-preserved-else-is_added : goal.loop-work-preserved-else-is_added
loop-work-preserved-else-is_added g c = record {
  fresh = All-rest IsUnasked c.in-Some.work (into_iter_items c.next.new.self) (into_iter_items c.loop-work.work-iterator)
      c.in-Some.ensures.steps.0 c.loop-work.invariant.fresh;
  begun = λ devices began.
      one_runs _ devices c.in-Some.work (into_iter_items c.loop-work.work-iterator) (into_iter_items c.next.new.self)
      c.loop-work.running.items c.is_added.new.list.items c.in-Ok-spawn_with.thread c.is_added.result c.in-Some.ensures.steps.0
      c.is_added.ensures (ap (λ p. p.work.value) c.in-Ok-spawn_with.ensures.ok ∙ c.of.ensures) (c.loop-work.invariant.begun devices began);
}

pub loop-work-preserved : goal.loop-work-preserved
loop-work-preserved g c = record {
  fresh = All-rest IsUnasked c.in-Some.work (into_iter_items c.next.new.self) (into_iter_items c.loop-work.work-iterator)
      c.in-Some.ensures.steps.0 c.loop-work.invariant.fresh;
  begun = λ devices began.
      let were = c.loop-work.invariant.begun devices began in (
        All-rest (λ w. w.first ≡ slice_get devices w.seat.seat) c.in-Some.work (into_iter_items c.next.new.self)
            (into_iter_items c.loop-work.work-iterator) c.in-Some.ensures.steps.0 were.0,
        were.1,
      );
}

pub returns : goal.returns
returns g c = λ devices began.
    c.joined.ensures devices (c.loop-work.invariant.begun devices (rw (← c.into_iter-work-iterator.ensures.into_iter_gives.0) at began)).1
