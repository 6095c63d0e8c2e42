-- What the calls of a book do.
use Rattle.std.specs.Prelude.{◌≡◌, ◌⊎◌, ◌≤◌, ◌+◌, ◌^◌, ℕ, Bool, true, false, cond, [], ◌++◌, Option, Some, None, length}
use Rattle.std.specs.Prelude.{nat_lt}
use Rattle.std.specs.Option.{option_to_list}
use Rattle.jlr_types.specs.declared.Progress.{Progress}
use Rattle.jlr_types.specs.declared.Refusal.{Refusal}
use Rattle.jlr_types.specs.declared.Refusal.TheVariants.{NoMemory, Exhausted}
use Rattle.jlr_machine.specs.declared.ask.Ask.{Ask}
use Rattle.jlr_machine.specs.declared.ask.Ask.TheVariants.{Abandon}
use Rattle.jlr_machine.specs.declared.ask.Answer.TheVariants.{Refused, Truth}
use Rattle.jlr_machine.specs.Chosen.{Chosen}
use Rattle.jlr_machine.specs.Refusals.{is_end}
use Rattle.jlr_event.specs.declared.event.Event.{Event}
use Rattle.jlr_event.specs.declared.event.Event.TheVariants.{Ask as Asks, Mark}
use Rattle.jlr_event.specs.declared.event.Reply.{Reply}
use Rattle.jlr_event.specs.declared.event.Reply.TheVariants.{Answered, Marked}
use Rattle.jlr_event.specs.Events.{ask_of, answer_in, resource_of_event}
use Rattle.jlr_steps.specs.Cores.{Kept}
use Rattle.jlr_steps.specs.Steps.{IsStep, Steps}
use Rattle.jlr_book.specs.Histories.{History, HasNumbers, last, seated}

-- ---- A cut

-- an open cycle is given up
abbrev pub GivesUp : {R : Type 0} → Bool → Kept R → Kept R → Type 0
GivesUp true core new = Steps core (Asks Abandon) (Answered (Truth true) None) new
GivesUp false core new = new ≡ core

-- The core's machine becomes the image, with no cycle open. The entries are let go, and with them the one that gave up
-- an open cycle.
pub record Cuts {R : Type 0} (old new : History R) : Type 0 where
  pub base : new.base ≡ last old + cond old.core.machine.cycle_open 1 0
  pub image : new.image ≡ record old.core.machine { cycle_open = false }
  pub entries : new.entries ≡ []
  pub gives_up : GivesUp old.core.machine.cycle_open old.core new.core
  pub limits : new.limits ≡ old.limits

-- an ask that is no end cuts first where the trace is as long as it may be
abbrev pub Readies : {R : Type 0} → History R → History R → Type 0
Readies old ready = elim (nat_lt (length old.entries) old.limits.trace) [ true ↦ ready ≡ old | false ↦ Cuts old ready ]

-- ---- A step

-- A step of the core, which is one entry more, of this seat; a piece of marking is none.
pub record Enters {R : Type 0} (seat : ℕ) (old : History R) (event : Event R) (reply : Reply R) (new : History R) : Type
    0 where
  pub chosen : Chosen
  pub step : IsStep old.core event reply chosen new.core
  pub adds : new ≡ record old {
    entries = old.entries
        ++ option_to_list (seated seat (ask_of event) (answer_in reply) chosen);
    core = new.core;
  }

-- An end that the core refuses is no entry.
pub record TurnsAway {R : Type 0} (old : History R) (event : Event R) (reply : Reply R) (new : History R) : Type 0 where
  pub steps : Steps old.core event reply new.core
  pub by : Refusal
  pub refused : answer_in reply ≡ Some (Refused by)
  pub stays : new ≡ record old { core = new.core }

-- Perhaps after a cut, one entry more.
pub record EntersReady {R : Type 0} (seat : ℕ) (old : History R) (event : Event R) (reply : Reply R)
    (new : History R) : Type 0 where
  pub numbers : HasNumbers old
  pub ready : History R
  pub readies : Readies old ready
  pub enters : Enters seat ready event reply new

-- The book refuses by itself, and the core is not asked: just where fewer than 1,024 numbers are left, or else since
-- there is no memory for a place or an image.
pub record Declines {R : Type 0} (old : History R) (event : Event R) (reply : Reply R) (new : History R) : Type 0 where
  pub same : new ≡ old
  pub why : (HasNumbers old × (reply ≡ Answered (Refused NoMemory) (resource_of_event event)))
      ⊎ ((2 ^ 64 ≤ last old + 1024) × (reply ≡ Answered (Refused Exhausted) (resource_of_event event)))

abbrev pub was_refused : {R : Type 0} → Reply R → Type 0
was_refused reply = (by : Refusal) × (answer_in reply ≡ Some (Refused by))

-- an end: an entry, or turned away just where the core refuses it
abbrev pub EndsBy : {R : Type 0} → ℕ → History R → Event R → Reply R → History R → Type 0
EndsBy seat old event reply new = (Enters seat old event reply new × ¬ (was_refused reply))
    ⊎ TurnsAway old event reply new

-- any other ask
abbrev pub AsksBy : {R : Type 0} → ℕ → History R → Event R → Reply R → History R → Type 0
AsksBy seat old event reply new = EntersReady seat old event reply new ⊎ Declines old event reply new

-- a piece of marking is a step without an entry
abbrev pub StepsBy : {R : Type 0} → ℕ → Option Ask → History R → Event R → Reply R → History R → Type 0
StepsBy seat None old event reply new = Enters seat old event reply new
StepsBy seat (Some ask) old event reply new =
    elim (is_end ask) [ true ↦ EndsBy seat old event reply new | false ↦ AsksBy seat old event reply new ]

abbrev pub BookSteps : {R : Type 0} → ℕ → History R → Event R → Reply R → History R → Type 0
BookSteps seat old event reply new = StepsBy seat (ask_of event) old event reply new

-- A piece of marking.
pub record MarksBy {R : Type 0} (old : History R) (budget : ℕ) (progress : Progress) (new : History R) : Type 0 where
  pub steps : Steps old.core (Mark budget) (Marked progress) new.core
  pub stays : new ≡ record old { core = new.core }
