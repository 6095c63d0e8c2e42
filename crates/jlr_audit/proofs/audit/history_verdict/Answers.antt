use Rattle.std.proofs.Common.{◌+◌}
use Rattle.jlr_audit.specs.declared.verdict.Verdict.TheVariants.{Legal, Illegal}
use Rattle.jlr_audit.proofs.Runs.{any_verdict, all_legal, one_illegal}
use Rattle.jlr_audit.proofs.audit.history_verdict.Goals as goal

pub returns-then-legal-entries-clause-verdict : goal.returns-then-legal-entries-clause-verdict
returns-then-legal-entries-clause-verdict g c = all_legal c.args.image.now c.args.entries.now c.in_ok-legal.legal
    (c.image_plain-formed.ensures.0 c.if-not-formed.false) c.in_ok-legal.ensures c.if-legal-entries.true

pub returns-then-legal-entries-clause-only : goal.returns-then-legal-entries-clause-only
returns-then-legal-entries-clause-only g c = λ w q. any_verdict c.args.image.now c.args.entries.now Legal
    (all_legal c.args.image.now c.args.entries.now c.in_ok-legal.legal (c.image_plain-formed.ensures.0 c.if-not-formed.false)
    c.in_ok-legal.ensures c.if-legal-entries.true) w q

pub returns-clause-verdict : goal.returns-clause-verdict
returns-clause-verdict g c = one_illegal c.args.image.now c.args.entries.now c.in_ok-legal.legal
    (c.image_plain-formed.ensures.0 c.if-not-formed.false) c.in_ok-legal.ensures c.if-legal-entries.false

pub returns-clause-only : goal.returns-clause-only
returns-clause-only g c = λ w q. any_verdict c.args.image.now c.args.entries.now (Illegal (c.in_ok-legal.legal + 1))
    (one_illegal c.args.image.now c.args.entries.now c.in_ok-legal.legal (c.image_plain-formed.ensures.0 c.if-not-formed.false)
    c.in_ok-legal.ensures c.if-legal-entries.false) w q
