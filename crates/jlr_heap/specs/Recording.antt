-- A heap whose asks a book records.
use Rattle.std.specs.Prelude.{◌≡◌, ◌≢◌, ◌⊎◌, List, [], ◌∷◌, Some}
use Rattle.jlr_machine.specs.declared.ask.Handed.{Handed}
use Rattle.jlr_machine.specs.declared.ask.Answer.TheVariants as answer
use Rattle.jlr_machine.specs.declared.ask.Ask.TheVariants.{HandOver}
use Rattle.jlr_event.specs.declared.event.Event.TheVariants.{Ask as Asks}
use Rattle.jlr_event.specs.declared.event.Reply.{Reply}
use Rattle.jlr_event.specs.Events.{answer_in}
use Rattle.jlr_session.specs.Asks.{Asking}
use Rattle.jlr_book.specs.Histories.{History}
use Rattle.jlr_book.specs.Rules.{BookSteps, was_refused}
use Rattle.jlr_book.specs.Histories.{handler_seat}

module _ {R : Type 0} where
  -- a step of the handler where something is pending, which handed something over
  abbrev pub HandsOne : History R → History R → Type 0
  HandsOne old new = (old.core.machine.pending ≢ []) × (reply : Reply R) × (what : Handed)
      × BookSteps (handler_seat old) old (Asks HandOver) reply new × (answer_in reply ≡ Some (answer.Handed what))

  -- or was refused
  abbrev pub CannotHand : History R → History R → Type 0
  CannotHand old new = (old.core.machine.pending ≢ []) × (reply : Reply R)
      × BookSteps (handler_seat old) old (Asks HandOver) reply new × was_refused reply

  -- such steps, which led to these
  abbrev pub HandsOverRecorded : List (History R) → History R → History R → Type 0
  HandsOverRecorded [] old new = new ≡ old
  HandsOverRecorded (next ∷ later) old new = HandsOne old next × HandsOverRecorded later next new

  -- until nothing is pending, or one is refused, for want of memory or of numbers
  abbrev pub SettlesBook : History R → History R → Type 0
  SettlesBook old new = (states : List (History R)) × (last : History R) × HandsOverRecorded states old last
      × (((new ≡ last) × (new.core.machine.pending ≡ [])) ⊎ CannotHand last new)

  -- each ask of mutator 0 is a step of the book, and a settling is steps of the handler
  abbrev pub recorded_asking : Asking (History R) R
  recorded_asking = record { mutator = λ _. 0; asks = BookSteps 0; settling = SettlesBook }
