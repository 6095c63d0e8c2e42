-- What the arguments of calls stand for.
use Rattle.std.specs.Prelude.{ℕ, suc, zero, ◌/◌, ◌%◌, ◌==◌, cond, List, [], ◌∷◌}
use Rattle.jlr_types.specs.declared.FieldKind.{FieldKind}
use Rattle.jlr_types.specs.declared.FieldKind.TheVariants.{Int, Ref}
use Rattle.jlr_machine.specs.declared.ask.Outcome.{Outcome}
use Rattle.jlr_machine.specs.declared.ask.Outcome.TheVariants as outcome
use Rattle.jlr_machine.specs.declared.ask.CallOutcome.{CallOutcome}
use Rattle.jlr_machine.specs.declared.ask.CallOutcome.TheVariants.{Wrote, Failed}

-- a set bit is a reference field
abbrev pub kind_of_bit : ℕ → FieldKind
kind_of_bit bits = cond (bits % 2 == 1) Ref Int

-- so many fields, the lowest bit that of field 0
abbrev pub layout_of : ℕ → ℕ → List FieldKind
layout_of zero bits = []
layout_of (suc fields) bits = kind_of_bit bits ∷ layout_of fields (bits / 2)

-- a call on what a token stands for: to the heap it wrote nothing, or failed
abbrev pub call_outcome : Outcome → CallOutcome
call_outcome outcome.Ok = Wrote 0
call_outcome (outcome.Failed fault) = Failed fault
