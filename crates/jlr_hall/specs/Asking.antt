-- What an ask of a seat is in the one history.
use Rattle.std.specs.Prelude.{◌≡◌, ◌⊎◌, ◌≤◌, ◌<◌, ◌+◌, ◌^◌, ◌&&◌, ℕ, Bool, true, false, not, cond, nat_lt, List, []}
use Rattle.std.specs.Prelude.{◌∷◌, ◌++◌, length, Option, Some, None, is_some}
use mathlib.Core.Logic.{inl, inr}
use Rattle.jlr_types.specs.declared.limits.Limits.{Limits}
use Rattle.jlr_types.specs.declared.Refusal.{Refusal}
use Rattle.jlr_types.specs.declared.Refusal.TheVariants.{NoMemory, Exhausted}
use Rattle.jlr_types.specs.declared.Work.{Work}
use Rattle.jlr_types.specs.declared.Work.TheVariants.{Note, Resource as OnResource}
use Rattle.jlr_machine.specs.declared.ask.Ask.{Ask}
use Rattle.jlr_machine.specs.declared.ask.Answer.TheVariants.{Job, Refused, Truth}
use Rattle.jlr_machine.specs.declared.ask.Ask.TheVariants.{Finish, HandOver, TakeUp}
use Rattle.jlr_machine.specs.Refusals.{asker, is_end}
use Rattle.jlr_event.specs.declared.event.Event.{Event}
use Rattle.jlr_machine.specs.declared.ask.Ask.TheVariants.{Abandon}
use Rattle.jlr_event.specs.declared.event.Event.TheVariants.{Ask as Asks}
use Rattle.jlr_event.specs.declared.event.Reply.{Reply}
use Rattle.jlr_event.specs.declared.event.Reply.TheVariants.{Answered}
use Rattle.jlr_event.specs.Events.{ask_of, resource_of_event}
use Rattle.jlr_book.specs.Histories.{History, last}
use Rattle.jlr_log.specs.Views.{own}
use Rattle.jlr_log.specs.Seeing.{Seen}
use Rattle.jlr_hall.specs.declared.step.Step.{Step}
use Rattle.jlr_hall.specs.OneHistory.{LayUnderLock, IsWhole, seat_of, step}

-- the book cuts only before an ask that ends no call and no session
abbrev pub may_cut : Option Ask → Bool
may_cut None = false
may_cut (Some ask) = elim (is_end ask) [ true ↦ false | false ↦ true ]

module _ {R : Type 0} where
  -- a cut gives an open cycle up
  abbrev pub gave_up : ℕ → Bool → List (Step R)
  gave_up seat cycle_open = cond cycle_open (step seat (Asks Abandon) (Answered (Truth true) None) false ∷ []) []

  -- the trace is as long as it may be
  abbrev pub is_trace_full : History R → Bool
  is_trace_full book = not (nat_lt (length book.entries) book.limits.trace)

  -- before an event the book cuts just where that ends nothing and the trace is full
  abbrev pub is_cut : History R → Event R → Bool
  is_cut book event = may_cut (ask_of event) && is_trace_full book

  -- the step of an event, behind that of its cut, where an open cycle is given up
  abbrev pub with_cut : ℕ → History R → Event R → Reply R → Bool → List (Step R)
  with_cut seat book event reply cut = gave_up seat (cut && book.core.machine.cycle_open)
      ++ step seat event reply cut ∷ []

  -- The event is the last step of a history that goes on from all that the seat knew: with this reply, and with the
  -- resources that came in and went out. Since then there is nothing else of this seat, but that its cut gave a cycle
  -- up. The book that lay under the lock was cut just where its trace was full.
  pub record Adds (limits : Limits) (old : Seen (Step R)) (event : Event R) (reply : Reply R)
      (new : Seen (Step R)) : Type 0 where
    pub seat : new.seat ≡ old.seat
    pub between : List (Step R)
    pub others : own seat_of old.seat between ≡ []
    pub book : History R
    pub lay : IsWhole limits book (old.known ++ between)
    pub known : new.known ≡ (old.known ++ between) ++ with_cut old.seat book event reply (is_cut book event)
    pub legal : LayUnderLock limits new.known

  -- fewer than 1,024 entry numbers are left behind a history
  abbrev pub LacksNumbers : Limits → List (Step R) → Type 0
  LacksNumbers limits log = (book : History R) × IsWhole limits book log × (2 ^ 64 ≤ last book + 1024)

  -- The book refuses by itself an ask that ends nothing: the history has nothing of it, and what came in goes back.
  -- Only out of memory, or where entry numbers ran out.
  pub record Declined (limits : Limits) (old : Seen (Step R)) (event : Event R) (reply : Reply R)
      (new : Seen (Step R)) : Type 0 where
    pub seat : new.seat ≡ old.seat
    pub between : List (Step R)
    pub others : own seat_of old.seat between ≡ []
    pub known : new.known ≡ old.known ++ between
    pub ends_nothing : may_cut (ask_of event) ≡ true
    pub by : Refusal
    pub why : (by ≡ NoMemory) ⊎ ((by ≡ Exhausted) × LacksNumbers limits (old.known ++ between))
    pub refused : reply ≡ Answered (Refused by) (resource_of_event event)

  abbrev pub Asked : Limits → Seen (Step R) → Event R → Reply R → Seen (Step R) → Type 0
  Asked limits old event reply new = Adds limits old event reply new ⊎ Declined limits old event reply new

  -- the history that an ask found under the lock
  abbrev pub found : (limits : Limits) (old : Seen (Step R)) (event : Event R) (reply : Reply R) (new : Seen (Step R))
      → Asked limits old event reply new → List (Step R)
  found limits old event reply new (inl x) = old.known ++ x.between
  found limits old event reply new (inr x) = old.known ++ x.between

  -- it found this one
  abbrev pub AskedIn : Limits → List (Step R) → Seen (Step R) → Event R → Reply R → Seen (Step R) → Type 0
  AskedIn limits log old event reply new = (asked : Asked limits old event reply new)
      × (found limits old event reply new asked ≡ log)

-- ---- Jobs

abbrev pub works_on_resource : Work → Bool
works_on_resource (Note n) = false
works_on_resource (OnResource rid) = true

-- a job comes with a resource just where its work is on one
abbrev pub HasItsResource : {R : Type 0} → Reply R → Type 0
HasItsResource (Answered (Job action work) resource) = is_some resource ≡ works_on_resource work
HasItsResource reply = Unit {0}

-- ---- Whose ask it is

-- the loop that asks it, of the marker's, the handler's and the cleaner's
abbrev pub loop_for : Ask → ℕ
loop_for HandOver = 1
loop_for TakeUp = 2
loop_for (Finish by action outcome) = 2
loop_for ask = 0

-- A session's seat asks in the name of its mutator, and each of the three seats after those what is its loop's; pieces
-- of marking are the marker's.
abbrev pub IsOwn : ℕ → ℕ → Option Ask → Type 0
IsOwn seat sessions None = seat ≡ sessions
IsOwn seat sessions (Some ask) =
    elim (asker ask) [ Some k ↦ (seat ≡ k) × (seat < sessions) | None ↦ seat ≡ sessions + loop_for ask ]
