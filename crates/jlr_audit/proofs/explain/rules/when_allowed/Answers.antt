use Rattle.std.proofs.Common.{arith}
use Rattle.jlr_laws.proofs.Empty.{well_formed_within}
use Rattle.jlr_audit.proofs.explain.rules.when_allowed.Goals as goal

pub may_collect_plain-requires-clause-cells : goal.may_collect_plain-requires-clause-cells
may_collect_plain-requires-clause-cells c = omega (arith, c.requires.limits.cells)

pub may_collect_plain-requires-clause-within : goal.may_collect_plain-requires-clause-within
may_collect_plain-requires-clause-within c = well_formed_within c.args.machine.now c.requires
