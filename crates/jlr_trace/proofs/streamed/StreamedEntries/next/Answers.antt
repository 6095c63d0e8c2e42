use Rattle.jlr_trace.proofs.StreamLaws.{comes_next, next_fails}
use Rattle.jlr_trace.proofs.streamed.StreamedEntries.next.Goals as goal

pub returns-in-Ok-clause-next : goal.returns-in-Ok-clause-next
returns-in-Ok-clause-next g c =
    let e = c.self.inside in
    comes_next e.version e.passed e.left c.in-Ok.entry e.window c.next_entry.new.window c.args.self.now c.self.view_is c.requires
    c.in-Ok.ensures.reads c.in-Ok.ensures.bytes

pub returns-in-Err-clause-fault : goal.returns-in-Err-clause-fault
returns-in-Err-clause-fault g c =
    let e = c.self.inside in
    next_fails e.version e.passed e.left c.in-Err.fault e.window c.args.self.now c.self.view_is c.requires c.in-Err.ensures.fault
