use Rattle.std.proofs.Common.{◌≡◌, ◌+◌, rules}
use Rattle.jlr_trace.proofs.StreamLaws.{ends_there, rest_ends, goes_on_there}
use Rattle.jlr_trace.proofs.streamed.StreamedEntries.end.Goals as goal

pub returns-clause-end : goal.returns-clause-end
returns-clause-end g c =
    let e = c.self.inside in
    ends_there e.version e.passed e.left e.window c.args.self.now c.end_of.result c.self.view_is c.requires c.end_of.ensures.end

pub returns-clause-fault : goal.returns-clause-fault
returns-clause-fault g c =
    let e = c.self.inside in
    let follows : c.in-Some.number ≡ c.self.inside.passed + 1 = search rules in
    goes_on_there e.version e.passed c.in-Some.number e.left e.window c.args.self.now c.end_of.result c.self.view_is c.requires follows
    c.end_of.ensures.fault

pub returns-clause-rest : goal.returns-clause-rest
returns-clause-rest g c =
    let e = c.self.inside in
    rest_ends e.version (e.passed + 1) e.left e.window c.args.self.now c.end_of.result c.self.view_is c.end_of.ensures.end
