use Rattle.std.proofs.Common.{◌≡◌, Ok, Err, IfOk, sym, subst, arith}
use Rattle.jlr_machine.specs.declared.machine.Machine.{Machine}
use Rattle.jlr_machine.specs.Run.{empty_from}
use Rattle.jlr_machine.specs.WellFormed.{IsWellFormed}
use Rattle.jlr_laws.proofs.Empty.{empty_from_is_well_formed}
use Rattle.jlr_low_rows.proofs.tests.plain.play.late_start.Goals as goal

pub returns : goal.returns
returns c = elim c.empty_plain_from.result as (λ r. IfOk r (λ (m : Machine). m ≡ empty_from 16 1 16 18446744073709551615)
    → IfOk r (λ (m : Machine). IsWellFormed m)) [
      | Ok m ↦ λ e. subst IsWellFormed (sym e)
          (empty_from_is_well_formed 16 1 16 18446744073709551615 (omega arith) (omega arith) (omega arith))
      | Err e ↦ λ h. h
    ] c.empty_plain_from.ensures
