-- Who tells what a call read: the end of the call, and its answer. A copy of the end takes room for the bytes.
use Rattle.std.specs.Prelude.{◌≡◌, Bool, true, false, cond, Option, Some, is_some}
use Rattle.jlr_machine.specs.declared.ask.Ask.{Ask}
use Rattle.jlr_machine.specs.declared.ask.Ask.TheVariants.{CheckIn}
use Rattle.jlr_machine.specs.declared.ask.CallOutcome.{CallOutcome}
use Rattle.jlr_machine.specs.declared.ask.CallOutcome.TheVariants.{Data}

abbrev pub is_data_outcome : CallOutcome → Bool
is_data_outcome (Data bytes) = true
is_data_outcome outcome = false

abbrev pub tells_data : Option Ask → Bool
tells_data (Some (CheckIn k outcome)) = is_data_outcome outcome
tells_data asked = false

-- there is room where it is needed
abbrev pub HasRoom : {X : Type 0} → Option X → CallOutcome → Type 0
HasRoom room outcome = cond (is_data_outcome outcome) (is_some room) true ≡ true

-- room comes with an ask that needs it
abbrev pub Brings : {X : Type 0} → Option X → Option Ask → Type 0
Brings room asked = cond (tells_data asked) (is_some room) true ≡ true
