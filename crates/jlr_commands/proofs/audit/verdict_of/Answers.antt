use Rattle.jlr_commands.proofs.Streams.{judged}
use Rattle.jlr_commands.proofs.audit.verdict_of.Goals as goal

pub returns-in-Ok-clause-verdict : goal.returns-in-Ok-clause-verdict
returns-in-Ok-clause-verdict g c =
    let t = c.in-Ok.trace in
    let known = c.in-Ok.ensures in
    judged t.version t.base t.image t.strays t.count (g.R.Read.remaining c.args.reader) t.entries.rest t.entries.entries
    c.verdict_of_trace.result
    known.found known.bytes known.counted c.verdict_of_trace.ensures.verdict c.verdict_of_trace.ensures.bytes
