use Rattle.std.proofs.Common.{◌≡◌, ◌∙◌, ap}
use Rattle.jlr_session.specs.Calls.{Opening}
use Rattle.jlr_session.specs.Limits.{FindsEnd}
use Rattle.jlr_server.specs.Serving.{Work}
use Rattle.jlr_server.proofs.Seats.{session_stays}
use Rattle.jlr_server.proofs.Works.{one_session, work}
use Rattle.jlr_server.proofs.worked.Worked.serve.Goals as goal

pub invariant_of-result-2 : goal.invariant_of-result-2
invariant_of-result-2 g c =
    let device : Opening g.row.D.Denot g.row.D-Res.Denot =
    record {
      count =
          g.D.Device.count;
      opens = g.D.Device.may_open;
      connects = g.D.Device.may_connect;
      failures = g.D.Res.Resource.handling.count;
    } in
    let resource = g.D.Res.Resource.handling in
    let p = c.self.inside.seat in
    let q = c.serve_seat-seat.result in
    let v = c.serve_seat-seat.ensures in
    let remaining = g.A.In.Read.remaining c.serve_seat-seat.new.input in
    let given = rw (← c.self.view_is) at c.requires.came in
    let id = rw (← c.self.view_is) at c.next_accept-id.ensures in
    let stays : q.seat ≡ p.seat = session_stays g.L.Limited.limits device resource (FindsEnd remaining v.1) v.0 v.1 p c.attend.new.self v.2
    q c.serve_seat-seat.new.device v.6 in
    one_session g.L.Limited.limits device g.D.Device.may_attend resource g.A.Acceptor.giving g.A.In.Read.remaining g.A.Out.Write.contents
    (work p c.self.inside.first.value c.self.inside.device c.self.inside.sessions c.self.inside.missed) q c.in-Some.device
    c.attend-2.new.self c.in-Some.is (rw (← c.self.view_is) at c.requires.seat) stays c.self.invariant (
      c.args.acceptor.now,
      c.args.came.0,
      c.args.came.1,
      given,
      c.serve_seat-seat.new.input,
      c.serve_seat-seat.new.output,
      rw id at c.leave-2.ensures.takes,
      v.1,
      v.2,
      v.3,
      v.4,
      v.5,
      c.attend.new.self,
      c.serve_seat-seat.new.device,
      c.attend.ensures.told,
      c.attend-2.ensures.told,
      v.0,
      v.6,
    )

pub returns : goal.returns
returns g c =
    let device : Opening g.row.D.Denot g.row.D-Res.Denot =
    record {
      count =
          g.D.Device.count;
      opens = g.D.Device.may_open;
      connects = g.D.Device.may_connect;
      failures = g.D.Res.Resource.handling.count;
    } in
    let v = c.serve_seat-seat.ensures in
    let remaining = g.A.In.Read.remaining c.serve_seat-seat.new.input in
    let stays = session_stays g.L.Limited.limits device g.D.Res.Resource.handling (FindsEnd remaining v.1) v.0 v.1 c.self.inside.seat
    c.attend.new.self v.2 c.serve_seat-seat.result c.serve_seat-seat.new.device v.6 in (
      stays ∙ ap (λ (w : Work g.row.D.Denot g.row.D-Res.Denot). w.seat.seat) c.self.view_is,
      ap (λ (w : Work g.row.D.Denot g.row.D-Res.Denot). w.first) c.self.view_is,
    )
