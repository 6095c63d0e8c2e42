-- A core of the empty machine.
use Rattle.std.proofs.Common.{◌≡◌, ℕ, Option, None, refl, sym, ap, ◌∙◌, true, length}
use Rattle.std.proofs.lemmas.Bool.{both_ways}
use Rattle.std.proofs.lemmas.List.{length-replicate}
use Rattle.jlr_machine.specs.declared.object.Object.{Object}
use Rattle.jlr_machine.specs.declared.machine.Machine.{Machine}
use Rattle.jlr_machine.specs.Run.{empty}
use Rattle.jlr_steps.specs.Cores.{Kept, StandsIn}

pub stands_at_start : {R : Type 0} (core : Kept R) (cells sessions resources : ℕ) → core.machine ≡ empty cells sessions resources
    → StandsIn core (empty cells sessions resources)
stands_at_start core cells sessions resources e = record { same = e; seen = λ h. absurd (both_ways true (sym h) refl); outside = λ _. refl }

pub start_cells : {R : Type 0} (core : Kept R) (cells sessions resources : ℕ) → core.machine ≡ empty cells sessions resources
    → length core.machine.objects ≡ cells
start_cells core cells sessions resources e =
    let none : Option Object = None in
    ap (λ (x : Machine). length x.objects) e ∙ length-replicate cells none
