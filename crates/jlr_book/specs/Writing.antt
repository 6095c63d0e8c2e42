-- Steps of the core whose entries are recorded, without the rest of the book.
use Rattle.std.specs.Prelude.{◌≡◌, ◌≢◌, ◌⊎◌, ℕ, ◌++◌, List, map, Some}
use Rattle.std.specs.Option.{option_to_list}
use Rattle.jlr_types.specs.declared.Refusal.{Refusal}
use Rattle.jlr_machine.specs.declared.machine.Machine.{Machine}
use Rattle.jlr_machine.specs.declared.ask.Answer.TheVariants.{Refused}
use Rattle.jlr_machine.specs.Chosen.{Chosen}
use Rattle.jlr_machine.specs.WellFormed.{IsWellFormed}
use Rattle.jlr_plain.specs.declared.record.Record.{Record}
use Rattle.jlr_plain.specs.Records.{record_of}
use Rattle.jlr_event.specs.declared.event.Event.{Event}
use Rattle.jlr_event.specs.declared.event.Reply.{Reply}
use Rattle.jlr_event.specs.Events.{ask_of, answer_in}
use Rattle.jlr_steps.specs.Cores.{Kept, StandsIn}
use Rattle.jlr_steps.specs.Steps.{IsStep, Steps}
use Rattle.jlr_book.specs.Histories.{History, seated}

-- the core stands for some well-formed machine
abbrev pub Stands : {R : Type 0} → Kept R → Type 0
Stands core = (m : Machine) × StandsIn core m × IsWellFormed m

-- a step of the core, and the record of its entry behind the others
pub record AddsRecord {R : Type 0} (seat : ℕ) (old : Kept R) (records : List Record) (event : Event R)
    (reply : Reply R) (new : Kept R) (records' : List Record) : Type 0 where
  pub chosen : Chosen
  pub step : IsStep old event reply chosen new
  pub adds : records' ≡ records
      ++ map record_of (option_to_list (seated seat (ask_of event) (answer_in reply) chosen))

-- a step of the core that refused an end, and no record
pub record AddsNone {R : Type 0} (old : Kept R) (records : List Record) (event : Event R) (reply : Reply R)
    (new : Kept R) (records' : List Record) : Type 0 where
  pub steps : Steps old event reply new
  pub by : Refusal
  pub refused : answer_in reply ≡ Some (Refused by)
  pub stays : records' ≡ records

-- an end: one of the two, as its answer says
abbrev pub AddsEnd : {R : Type 0} → ℕ → Kept R → List Record → Event R → Reply R → Kept R → List Record → Type 0
AddsEnd seat old records event reply new records' =
    (AddsRecord seat old records event reply new records' × ((by : Refusal) → answer_in reply ≢ Some (Refused by)))
    ⊎ AddsNone old records event reply new records'

-- a piece of marking: a step of the core alone
pub record Pieces {R : Type 0} (old : History R) (event : Event R) (reply : Reply R) (new : History R) : Type 0 where
  pub chosen : Chosen
  pub step : IsStep old.core event reply chosen new.core
  pub stays : new ≡ record old { core = new.core }
