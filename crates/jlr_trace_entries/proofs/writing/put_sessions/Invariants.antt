use Rattle.std.proofs.Common.{◌≡◌, ◌++◌, take}
use Rattle.std.specs.List.{flat_map}
use Rattle.jlr_trace_entries.specs.Writing.{spelled_session_of}
use Rattle.jlr_trace_entries.proofs.writing.put_sessions.Given as goal

abbrev pub invariant-loop-number : goal.invariant-loop-number
invariant-loop-number l = l.out.items ≡ l.fn.out.items ++ flat_map spelled_session_of (take l.number l.sessions)
