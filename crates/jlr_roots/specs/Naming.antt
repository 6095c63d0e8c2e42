-- What bindings name.
use Rattle.std.specs.Prelude.{ℕ, List, map}
use Rattle.jlr_machine.specs.declared.machine.Binding.{Binding}

-- the slots that they stand for, in the same order
abbrev pub named : List Binding → List ℕ
named names = map (λ b. b.slot) names

-- the bindings that the entries of a map are, in its order
abbrev pub bindings_of : List (List ℕ × ℕ) → List Binding
bindings_of entries = map (λ e. record { name = e.0; slot = e.1 }) entries
