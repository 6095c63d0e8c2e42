-- The one history of a hall: every step of its core since it was opened, those among them whose entries cuts took away.
use Rattle.std.specs.Prelude.{◌≡◌, ◌<◌, ◌+◌, ◌&&◌, ℕ, Bool, true, false, cond, List, [], ◌∷◌, ◌++◌, length, map, Option}
use Rattle.std.specs.Prelude.{Some, None}
use Rattle.std.specs.Option.{option_to_list}
use Rattle.jlr_types.specs.declared.limits.Limits.{Limits}
use Rattle.jlr_machine.specs.declared.ask.Ask.{Ask}
use Rattle.jlr_machine.specs.declared.ask.Answer.{Answer}
use Rattle.jlr_machine.specs.declared.ask.Answer.TheVariants.{Refused}
use Rattle.jlr_machine.specs.Chosen.{Chosen}
use Rattle.jlr_machine.specs.declared.entry.Entry.{Entry}
use Rattle.jlr_machine.specs.declared.machine.Machine.{Machine}
use Rattle.jlr_machine.specs.Refusals.{is_end}
use Rattle.jlr_machine.specs.Run.{apply}
use Rattle.jlr_machine.specs.WellFormed.{IsWellFormed}
use Rattle.jlr_event.specs.declared.event.Event.{Event}
use Rattle.jlr_event.specs.declared.event.Reply.{Reply}
use Rattle.jlr_event.specs.Events.{ask_of, answer_in}
use Rattle.jlr_core.specs.Runs.{IsRunOf}
use Rattle.jlr_book.specs.Histories.{History, empty_of, seated}
use Rattle.jlr_book.specs.Led.{shut}
use Rattle.jlr_hall.specs.declared.step.Step.{Step}

-- an ask that ends a call or a session
abbrev pub is_ending : Option Ask → Bool
is_ending None = false
is_ending (Some ask) = is_end ask

-- an ask was refused
abbrev pub is_refused_reply : Option Answer → Bool
is_refused_reply (Some (Refused by)) = true
is_refused_reply answer = false

-- What a history is at some place: the number of the last entry that a cut took away, the machine that the cut left,
-- and the entries since.
pub record Trace : Type 0 where
  pub base : ℕ
  pub image : Machine
  pub entries : List Entry

abbrev pub trace : ℕ → Machine → List Entry → Trace
trace base image entries = record { base = base; image = image; entries = entries }

abbrev pub new_trace : Limits → Trace
new_trace limits = trace 0 (empty_of limits) []

abbrev pub trace_in : {R : Type 0} → History R → Trace
trace_in h = trace h.base h.image h.entries

-- the machine behind entries
abbrev pub behind : Machine → List Entry → Machine
behind m [] = m
behind m (e ∷ entries) = behind (apply m e) entries

module _ {R : Type 0} where
  abbrev pub seat_of : Step R → ℕ
  seat_of e = e.seat

  abbrev pub step : ℕ → Event R → Reply R → Bool → Step R
  step seat event reply cuts = record { seat = seat; event = event; reply = reply; cuts = cuts }

  abbrev pub events_of : List (Step R) → List (Event R)
  events_of log = map (λ e. e.event) log

  abbrev pub replies_of : List (Step R) → List (Reply R)
  replies_of log = map (λ e. e.reply) log

  -- each is of a seat of the hall
  abbrev pub AllSit : ℕ → List (Step R) → Type 0
  AllSit seats [] = Unit {0}
  AllSit seats (e ∷ log) = (e.seat < seats) × AllSit seats log

  -- ---- Its trace

  -- the entry of a step: none of a piece of marking, and none of an end that was refused
  abbrev pub step_entry : Step R → Chosen → List Entry
  step_entry e chosen = cond (is_ending (ask_of e.event) && is_refused_reply (answer_in e.reply)) []
      (option_to_list (seated e.seat (ask_of e.event) (answer_in e.reply) chosen))

  -- a cut lets go the entries before it; their numbers stay taken, and the machine behind them is the image
  abbrev pub add : Trace → Step R → Chosen → Trace
  add t e chosen = cond e.cuts
      (trace (t.base + length t.entries) (shut (behind t.image t.entries)) (step_entry e chosen))
      (trace t.base t.image (t.entries ++ step_entry e chosen))

  abbrev pub trace_of : Trace → List (Step R) → List Chosen → Trace
  trace_of t [] choices = t
  trace_of t (e ∷ log) [] = t
  trace_of t (e ∷ log) (chosen ∷ choices) = trace_of (add t e chosen) log choices

  -- ---- Under the lock

  -- The steps are a run from the empty machine of the limits, with their resources, that keeps what the package
  -- promises and ends where the book's core stands; the entries of those since the last cut, with the run's own
  -- choices, are the book's trace, and those before give its base and its image.
  pub record IsWhole (limits : Limits) (book : History R) (log : List (Step R)) : Type 0 where
    pub formed : IsWellFormed (empty_of limits)
    pub run : IsRunOf limits (events_of log) (replies_of log) book.core
    pub traced : trace_of (new_trace limits) log run.choices ≡ trace_in book
    pub limits_are : book.limits ≡ limits
    pub seats : AllSit (limits.sessions + 3) log

  -- a history that lay under the lock
  abbrev pub LayUnderLock : Limits → List (Step R) → Type 0
  LayUnderLock limits log = (book : History R) × IsWhole limits book log
