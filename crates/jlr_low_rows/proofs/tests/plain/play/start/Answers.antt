use Rattle.std.proofs.Common.{◌≡◌, Ok, Err, IfOk, sym, subst}
use Rattle.jlr_machine.specs.declared.machine.Machine.{Machine}
use Rattle.jlr_machine.specs.Run.{empty}
use Rattle.jlr_machine.specs.WellFormed.{IsWellFormed}
use Rattle.jlr_laws.proofs.Empty.{empty_is_well_formed}
use Rattle.jlr_low_rows.proofs.tests.plain.play.start.Goals as goal

pub returns : goal.returns
returns c = elim c.empty_plain.result as (λ r. IfOk r (λ (m : Machine). m ≡ empty c.args.cells c.args.sessions c.args.resources)
    → IfOk r (λ (m : Machine). IsWellFormed m)) [
      | Ok m ↦ λ e. subst IsWellFormed (sym e)
          (empty_is_well_formed c.args.cells c.args.sessions c.args.resources c.requires.cells c.requires.sessions)
      | Err e ↦ λ h. h
    ] c.empty_plain.ensures
