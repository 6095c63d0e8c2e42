use Rattle.std.proofs.Common.{subst}
use Rattle.jlr_session.specs.Limits.{FindsEnd}
use Rattle.jlr_machine.specs.declared.ask.Answer.{Answer}
use Rattle.jlr_device.specs.Handling.{Handling}
use Rattle.jlr_session.specs.Calls.{Opening}
use Rattle.jlr_session.specs.Serving.{Follows}
use Rattle.jlr_session.proofs.Joining.{goes_on}
use Rattle.jlr_session.proofs.serve.serve.Goals as goal

pub returns : goal.returns
returns g c =
    let device : Opening g.row.D.Denot g.row.D-Res.Denot =
    record {
      count =
          g.D.Device.count;
      opens = g.D.Device.may_open;
      connects = g.D.Device.may_connect;
      failures = g.D.Res.Resource.handling.count;
    } in
    let resource : Handling g.row.D-Res.Denot = g.D.Res.Resource.handling in
    let e = c.converse-end.ensures in
    let at_end = FindsEnd (g.R.Read.remaining c.converse-end.new.reader) e.0 in
    let F : Answer → Type 0 = λ a. Follows g.P.Port.asking device resource a at_end c.converse-end.result e.0 c.join.new.port
    c.args.device.now e.1 c.leave.new.port c.converse-end.new.device in
    let session = goes_on g.P.Port.asking device resource c.join.result at_end c.converse-end.result e.0 c.join.new.port c.args.device.now
    e.1 c.leave.new.port c.converse-end.new.device c.in_default.not-Refused
    (c.converse-end.new.heap, c.leave.ensures.0, e.5, c.leave.ensures.1) in
    (e.0, e.1, e.2, e.3, e.4, (c.join.ensures.0, c.join.new.port, c.join.ensures.1, subst F c.join.ensures.2 session))
