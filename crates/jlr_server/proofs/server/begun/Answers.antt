use Rattle.std.proofs.Common.{◌≡◌, ◌∙◌, ap, arith, length, take}
use Rattle.std.specs.Prelude.{slice_get}
use Rattle.std.proofs.lemmas.List.{take-take}
use Rattle.jlr_server.specs.Serving.{IsUnasked}
use Rattle.jlr_server.proofs.Begins.{all_added, begins, is_fresh}
use Rattle.jlr_server.proofs.server.begun.Goals as goal

pub loop-preserved : goal.loop-preserved
loop-preserved g c =
    let i = c.loop.invariant in
    let devices = c.args.devices.items in
    let before = length c.loop.seats.items in
    let after = length c.last_work.new.seats.items in
    let one = c.in-Some.ensures.seat in
    let first = rw i.devices at c.in-Some.ensures.device in
    record {
      seats = c.last_work.ensures.fresh;
      devices = c.last_work.ensures.left ∙ ap (take after) i.devices ∙ take-take after before devices (omega (arith, one.0));
      fresh = all_added IsUnasked c.loop.works.items c.is_added.new.list.items c.in-Some.work c.is_added.result c.is_added.ensures i.fresh
          (is_fresh c.in-Some.work after one.1);
      begun = all_added (λ w. w.first ≡ slice_get devices w.seat.seat) c.loop.works.items c.is_added.new.list.items c.in-Some.work
          c.is_added.result c.is_added.ensures i.begun (begins devices c.in-Some.work after before one.0 one.1 first);
    }
