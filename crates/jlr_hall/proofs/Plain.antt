-- Asks that hand in no resource, as events.
use Rattle.std.proofs.Common.{◌≡◌, false, true, None, Some, refl, subst, sym}
use Rattle.std.proofs.lemmas.Bool.{both_ways}
use Rattle.jlr_machine.specs.declared.ask.Ask.{Ask}
use Rattle.jlr_machine.specs.declared.ask.Ask.TheVariants.{CheckIn}
use Rattle.jlr_machine.specs.Data.{Brings}
use Rattle.jlr_event.specs.declared.event.Event.{Event}
use Rattle.jlr_event.specs.declared.event.Event.TheVariants.{Ask as Asks}
use Rattle.jlr_event.specs.Asks.{hands_in}
use Rattle.jlr_event.specs.Events.{ask_of}

tells_nothing : (X : Type 0) (a : Ask) → hands_in a ≡ false → Brings {X = X} None (Some a)
tells_nothing X (CheckIn k outcome) plain = absurd (both_ways true plain refl)
tells_nothing X a plain = refl

-- nothing was read, so that no room is needed
pub brings_none : {R : Type 0} (X : Type 0) (e : Event R) (a : Ask) → e ≡ Asks a → hands_in a ≡ false → Brings {X = X} None (ask_of e)
brings_none {R} X e a is plain = subst (λ (e : Event R). Brings {X = X} None (ask_of e)) (sym is) (tells_nothing X a plain)
