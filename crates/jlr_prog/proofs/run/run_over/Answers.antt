use Rattle.jlr_prog.proofs.Histories.{is_session}
use Rattle.jlr_prog.proofs.run.run_over.Goals as goal

pub returns-clause-session : goal.returns-clause-session
returns-clause-session g c =
    let l = c.args.limits in
    let s = c.serve-end.ensures in (
      s.0,
      s.1,
      s.2,
      s.3,
      s.4,
      is_session (record {
        count =
            g.D.Device.count;
        opens = g.D.Device.may_open;
        connects = g.D.Device.may_connect;
        failures = g.D.Res.Resource.handling.count;
      })
          g.D.Res.Resource.handling
          l c.in_ok-solo.solo c.serve-end.new.port _ c.serve-end.result s.0 c.args.device.now s.1 c.serve-end.new.device
          c.in_ok-solo.ensures s.5 c.into_book.result c.into_book.ensures,
    )
