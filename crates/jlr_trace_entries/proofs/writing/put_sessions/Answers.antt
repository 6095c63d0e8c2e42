use Rattle.std.proofs.Common.{◌<◌, ◌≤◌, length, arith}
use Rattle.jlr_trace_entries.proofs.WritingLaws.{more_sessions, all_sessions, session_counts}
use Rattle.jlr_trace_entries.proofs.writing.put_sessions.Goals as goal

pub put_session_at-requires : goal.put_session_at-requires
put_session_at-requires c = session_counts c.args.sessions.now c.loop-number.number c.requires

pub loop-number-preserved : goal.loop-number-preserved
loop-number-preserved c =
    let there : c.loop-number.number < length c.args.sessions.now = omega arith in
    more_sessions c.args.sessions.now c.loop-number.number c.args.out.now.items c.loop-number.out.items c.put_session_at.new.out.items there
    c.loop-number.invariant c.in_ok-put_session_at.ensures

pub returns : goal.returns
returns c =
    let whole : length c.args.sessions.now ≤ c.loop-number.number = omega arith in
    all_sessions c.args.sessions.now c.loop-number.number c.args.out.now.items c.loop-number.out.items whole c.loop-number.invariant
