use Rattle.std.proofs.Common.{rules}
use Rattle.std.specs.Prelude.{IfOk}
use Rattle.jlr_audit.specs.Streams.{IsStreamVerdict}
use Rattle.jlr_audit.proofs.Coming.{only_one}
use Rattle.jlr_audit.proofs.streamed.audit_streamed.Goals as goal

pub returns-clause-only : goal.returns-clause-only
returns-clause-only g c =
    let t = c.args.trace in
    let verdict : IfOk c.verdict_on-verdict.result (λ v. IsStreamVerdict t.strays t.image t.entries.entries v) = search rules in
    only_one t.strays t.image t.entries.entries c.verdict_on-verdict.result verdict
