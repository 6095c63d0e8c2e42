use Rattle.std.proofs.Common.{◌≡◌, ◌↔◌, ◌||◌, IsTrue, Ok, Err, IfOk, subst, sym, ◌∙◌, arith}
use Rattle.jlr_machine.specs.Run.{IsLegal}
use Rattle.jlr_laws.specs.Deciding.{is_carried_out}
use Rattle.jlr_laws.proofs.Empty.{well_formed_within}
use Rattle.jlr_laws.proofs.Legality.{legality_is_decided}
use Rattle.jlr_plain.specs.Deciding.{declines}
use Rattle.jlr_plain.proofs.Advancing.{legal_parts}
use Rattle.jlr_plain.proofs.entry.legal_plain.Goals as goal

pub legal_tested-requires : goal.legal_tested-requires
legal_tested-requires c =
    record { cells = omega (arith, c.requires.limits.cells); within = well_formed_within c.args.machine.now c.requires }

pub returns : goal.returns
returns c = elim c.legal_tested.result as (λ r. IfOk r
    (λ b. b ≡ (is_carried_out c.args.machine.now c.args.entry.now || declines c.args.machine.now c.args.entry.now))
    → IfOk r (λ b. IsTrue b ↔ IsLegal c.args.machine.now c.args.entry.now)) [
      | Ok b ↦ λ e. subst (λ t. IsTrue t ↔ IsLegal c.args.machine.now c.args.entry.now)
          (sym (e ∙ legal_parts c.args.machine.now c.args.entry.now)) (legality_is_decided c.args.machine.now c.args.entry.now c.requires)
      | Err e ↦ λ h. h
    ] c.legal_tested.ensures
