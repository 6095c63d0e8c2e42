-- What follows a collection: the handler hands over until nothing is pending.
use Rattle.std.specs.Prelude.{◌≡◌, ◌≢◌, List, [], ◌∷◌, None}
use Rattle.jlr_machine.specs.declared.ask.Handed.{Handed}
use Rattle.jlr_machine.specs.declared.ask.Answer.TheVariants as answer
use Rattle.jlr_machine.specs.declared.ask.Ask.TheVariants.{HandOver}
use Rattle.jlr_event.specs.declared.event.Event.TheVariants.{Ask as Asks}
use Rattle.jlr_event.specs.declared.event.Reply.TheVariants.{Answered}
use Rattle.jlr_steps.specs.Cores.{Kept}
use Rattle.jlr_steps.specs.Steps.{Steps}

-- steps of the handler, one after the other, each where something was pending, which handed these over
abbrev pub HandsOverSteps : {R : Type 0} → List Handed → Kept R → Kept R → Type 0
HandsOverSteps [] old new = new ≡ old
HandsOverSteps {R} (what ∷ later) old new = (old.machine.pending ≢ []) × (next : Kept R)
    × Steps old (Asks HandOver) (Answered (answer.Handed what) None) next × HandsOverSteps later next new

-- such steps, until nothing is pending
abbrev pub SettlesAll : {R : Type 0} → Kept R → Kept R → Type 0
SettlesAll old new = (all : List Handed) × HandsOverSteps all old new × (new.machine.pending ≡ [])
