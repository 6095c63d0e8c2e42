use Rattle.std.proofs.Common.{sym, ◌∙◌, arith}
use Rattle.jlr_laws.proofs.Empty.{well_formed_within}
use Rattle.jlr_plain.proofs.Advancing.{declined_is_legal, not_allowed}
use Rattle.jlr_plain.proofs.Followed.{seen_is_kept, next_is_fit}
use Rattle.jlr_plain.proofs.advance.advance_plain.Goals as goal

pub is_declined-requires : goal.is_declined-requires
is_declined-requires c =
    record { cells = omega (arith, c.requires.formed.limits.cells); within = well_formed_within c.args.machine c.requires.formed }

pub may_carry_out-requires : goal.may_carry_out-requires
may_carry_out-requires c =
    record { cells = omega (arith, c.requires.formed.limits.cells); within = well_formed_within c.args.machine c.requires.formed }

pub applied-requires-clause-legal : goal.applied-requires-clause-legal
applied-requires-clause-legal c =
    declined_is_legal c.args.machine c.args.entry.now c.requires.formed (sym c.in-Ok.ensures ∙ c.if-declined.true)

pub applied-requires-clause-kept : goal.applied-requires-clause-kept
applied-requires-clause-kept c = λ k.
    seen_is_kept c.args.machine c.args.entry.now c.requires.formed c.requires.followed
    (declined_is_legal c.args.machine c.args.entry.now c.requires.formed (sym c.in-Ok.ensures ∙ c.if-declined.true))
    (sym c.keeps_seen_plain-kept.ensures ∙ k)

pub returns-then-declined : goal.returns-then-declined
returns-then-declined c =
    next_is_fit c.args.machine c.in_ok-next.next c.args.entry.now c.requires
    (declined_is_legal c.args.machine c.args.entry.now c.requires.formed (sym c.in-Ok.ensures ∙ c.if-declined.true)) c.in_ok-next.ensures

pub returns-then-not-may : goal.returns-then-not-may
returns-then-not-may c =
    not_allowed c.args.machine c.args.entry.now c.requires.formed
    (sym c.in-Ok-may_carry_out.ensures ∙ c.if-not-may.true) (sym c.in-Ok.ensures ∙ c.if-declined.false)

pub carry_on-requires-clause-kept : goal.carry_on-requires-clause-kept
carry_on-requires-clause-kept c = λ k legal.
    seen_is_kept c.args.machine c.args.entry.now c.requires.formed c.requires.followed legal (sym c.keeps_seen_plain-kept.ensures ∙ k)
