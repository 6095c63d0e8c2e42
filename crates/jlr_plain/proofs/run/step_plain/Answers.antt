use Rattle.std.proofs.Common.{sym, subst}
use Rattle.jlr_machine.specs.WellFormed.{IsWellFormed}
use Rattle.jlr_laws.proofs.Law.{legal_kept}
use Rattle.jlr_plain.proofs.run.step_plain.Goals as goal

pub returns-clause-formed : goal.returns-clause-formed
returns-clause-formed c = subst IsWellFormed (sym c.in_ok-apply_plain.ensures.ok)
    (legal_kept c.args.machine.now c.args.entry.now c.requires (c.in_ok-legal_plain.ensures.0 c.if-not-branch.false))
