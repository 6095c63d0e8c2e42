use Rattle.std.proofs.Common.{Some, option_map, sym, ◌∙◌, ap}
use Rattle.jlr_machine.specs.declared.machine.Session.{Session}
use Rattle.jlr_plain_asks.specs.Changes.{session_change_of}
use Rattle.jlr_plain_asks.proofs.Changing.{put_back}
use Rattle.jlr_plain_asks.proofs.changes.sessions.change_session.Goals.{in-Some, in-None}
use Rattle.jlr_plain_asks.proofs.changes.sessions.change_session.Goals as goal

pub returns : goal.returns
returns c =
    put_back {A = Session} c.args.seats.now.items c.take_session.new.seats.items c.put_session.new.seats.items c.args.number
    c.take_session.result c.match-take_session.seat (session_change_of c.args.change) c.take_session.ensures.taken
    c.take_session.ensures.left c.put_session.ensures
    (elim c.match-take_session.branch [
      | in-Some w ↦ w.seat-is ∙ ap {A = Session} Some w.changed.ensures
          ∙ ap (option_map (session_change_of c.args.change)) (sym w.in-Some.is)
      | in-None w ↦ w.seat-is ∙ ap (option_map (session_change_of c.args.change)) (sym w.in-None.is)
    ])
