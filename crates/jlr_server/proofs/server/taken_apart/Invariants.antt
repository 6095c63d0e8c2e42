use Rattle.std.specs.Prelude.{◌≡◌, map}
use Rattle.std.specs.List.{sum_by}
use Rattle.jlr_server.specs.Serving.{AllWork, accepts_of, devices_left, seat_in}
use Rattle.jlr_server.proofs.server.taken_apart.Given as goal

abbrev pub invariant-loop-work : goal.invariant-loop-work
invariant-loop-work g l = record {
  seats : l.tally.seats.items ≡ map seat_in l.yielded;
  devices : l.tally.devices.items ≡ devices_left l.yielded;
  accepts : l.tally.accepts ≡ sum_by accepts_of l.yielded;
  missed : l.tally.missed ≡ sum_by (λ w. w.missed) l.yielded;
  done : AllWork g.L.Limited.limits (record {
    count = g.D.Device.count;
    opens = g.D.Device.may_open;
    connects = g.D.Device.may_connect;
    failures = g.D.Res.Resource.handling.count;
  }) g.D.Device.may_attend g.D.Res.Resource.handling g.A.Acceptor.giving g.A.In.Read.remaining
      g.A.Out.Write.contents l.yielded;
}
