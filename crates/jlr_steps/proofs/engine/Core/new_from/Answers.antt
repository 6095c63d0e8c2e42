use Rattle.std.proofs.Common.{sym, subst}
use Rattle.jlr_machine.specs.WellFormed.{IsWellFormed}
use Rattle.jlr_machine.specs.declared.machine.Machine.{Machine}
use Rattle.jlr_state.specs.Waiting.{AllWait}
use Rattle.jlr_state.proofs.Awaiting.{none_waits}
use Rattle.jlr_state.proofs.Ranges.{limits_hold}
use Rattle.jlr_laws.proofs.Empty.{empty_from_is_an_image}
use Rattle.jlr_steps.proofs.engine.Core.new_from.Goals as goal

pub invariant_of-result : goal.invariant_of-result
invariant_of-result g c =
    let few = limits_hold c.args.limits in
    let image = empty_from_is_an_image c.args.limits.cells c.args.limits.sessions c.args.limits.resources c.args.next_action c.requires
    few.0 few.2 in (
      subst IsWellFormed (sym c.in_ok-new.ensures.machine) image.well_formed,
      subst (λ (m : Machine). AllWait m c.in_ok-new.field-0.cleaner.waiting) (sym c.in_ok-new.ensures.machine)
          (none_waits c.args.limits.cells c.args.limits.sessions c.args.limits.resources c.args.next_action
          c.in_ok-new.field-0.cleaner.waiting c.in_ok-new.ensures.none_waits),
    )
