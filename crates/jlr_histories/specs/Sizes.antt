-- That a plain object stays as large as it was made.
use Rattle.std.specs.Prelude.{◌≡◌, ℕ, [], ◌∷◌, Some, length}
use Rattle.jlr_machine.specs.declared.object.Contents.{Contents}
use Rattle.jlr_machine.specs.declared.object.Contents.TheVariants.{Typed, Elements}
use Rattle.jlr_machine.specs.declared.object.Object.TheVariants.{Plain}
use Rattle.jlr_machine.specs.declared.machine.Machine.{Machine}
use Rattle.jlr_machine.specs.declared.entry.Entry.{Entry}
use Rattle.jlr_machine.specs.Objects.{at}
use Rattle.jlr_machine.specs.Run.{IsLegal, apply}
use Rattle.jlr_machine.specs.WellFormed.{IsWellFormed}
use Rattle.jlr_histories.specs.Lives.{LivesOn}

-- fields stay fields, elements stay elements, and as many as they were
abbrev pub IsSameSize : Contents → Contents → Type 0
IsSameSize (Typed x) (Typed y) = length x ≡ length y
IsSameSize (Elements x) (Elements y) = length x ≡ length y
IsSameSize _ _ = ⊥

-- no entry changes how many fields or elements an object has
abbrev pub PlainKeepsItsSize : Type 0
PlainKeepsItsSize =
    (m : Machine) (e : Entry) (s : ℕ) (x : Contents) → IsWellFormed m → IsLegal m e → LivesOn m (e ∷ []) s
    → at m.objects s ≡ Some (Plain x)
    → (y : Contents) × (at (apply m e).objects s ≡ Some (Plain y)) × IsSameSize x y
