-- An ask that carries no resource hands none in.
use Rattle.std.proofs.Common.{◌≡◌, false, true, refl}
use Rattle.std.proofs.lemmas.Bool.{both_ways}
use Rattle.jlr_machine.specs.declared.ask.Ask.{Ask}
use Rattle.jlr_machine.specs.declared.ask.Ask.TheVariants as ask
use Rattle.jlr_event.specs.Asks.{carries_none, hands_in}

pub hands_nothing_in : (a : Ask) → carries_none a ≡ true → hands_in a ≡ false
hands_nothing_in (ask.Opened k outcome) is = absurd (both_ways false refl is)
hands_nothing_in (ask.CheckIn k outcome) is = absurd (both_ways false refl is)
hands_nothing_in a is = refl
