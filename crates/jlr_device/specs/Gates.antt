-- What the calls of a resource do that waits at a gate.
use Rattle.std.specs.Prelude.{◌≡◌, ◌⊎◌, ℕ, true, false, min, List, [], ◌∷◌, length, Result, Ok, Err}
use Rattle.jlr_types.specs.declared.Fault.{Fault}
use Rattle.jlr_types.specs.declared.Fault.TheVariants.{Other}
use Rattle.jlr_device.specs.declared.resource.Finished.{Finished}
use Rattle.jlr_device.specs.declared.gate.GateResource.{GateResource}
use Rattle.jlr_device.specs.Scripts.{filled}

abbrev pub bytes : List ℕ
bytes = 1 ∷ 2 ∷ 3 ∷ 4 ∷ []

module _ {G : Type 0} where
  -- the first read gives the four bytes, as many as fit, or fails; each later one gives nothing
  abbrev pub ReadsGate : GateResource G → List ℕ → Result ℕ Fault → List ℕ → GateResource G → Type 0
  ReadsGate old buf result now new =
      elim old.waited [
        | true ↦ (result ≡ Ok 0) × (now ≡ buf) × (new ≡ old)
        | false ↦ (new.waited ≡ true) × (((result ≡ Ok (min (length buf) 4)) × (now ≡ filled bytes buf))
            ⊎ ((result ≡ Err Other) × (now ≡ buf)))
      ]

  -- a write takes all
  abbrev pub WritesGate : GateResource G → List ℕ → Result ℕ Fault → GateResource G → Type 0
  WritesGate old bytes result new = (result ≡ Ok (length bytes)) × (new ≡ old)

  -- and the end succeeds
  abbrev pub FinishesGate : GateResource G → Finished → Type 0
  FinishesGate old result = result.outcome ≡ Ok tt
