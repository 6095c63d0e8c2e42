-- Which asks hand in a resource, and which carry none at all.
use Rattle.std.specs.Prelude.{Bool, true, false}
use Rattle.jlr_machine.specs.declared.ask.Ask.{Ask}
use Rattle.jlr_machine.specs.declared.ask.Ask.TheVariants.{CheckIn, CheckOut, Clean, Close, Opened, TakeUp}

-- the end of an open, and of a call
abbrev pub hands_in : Ask → Bool
hands_in (Opened k outcome) = true
hands_in (CheckIn k outcome) = true
hands_in ask = false

-- an ask that carries no resource, neither in nor out
abbrev pub carries_none : Ask → Bool
carries_none (Clean k c) = false
carries_none (Opened k outcome) = false
carries_none (CheckOut k h) = false
carries_none (CheckIn k outcome) = false
carries_none (Close k h) = false
carries_none TakeUp = false
carries_none ask = true
