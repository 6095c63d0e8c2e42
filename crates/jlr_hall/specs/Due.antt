-- When a cycle is due in a hall: where a quarter of the cells was taken since the last collection, or where, since one
-- last began, a session left with resources open, there was no room for a resource, or it was given up.
use Rattle.std.specs.Prelude.{◌≡◌, ◌≢◌, ◌⊎◌, ◌+◌, ◌-◌, ◌&&◌, ℕ, Bool, true, false, not, cond, nat_lt, List, [], ◌∷◌}
use Rattle.std.specs.Prelude.{◌++◌, Option, Some, is_some, fold, All}
use Rattle.jlr_types.specs.declared.limits.Limits.{Limits}
use Rattle.jlr_types.specs.declared.Refusal.TheVariants.{ResourcesFull}
use Rattle.jlr_machine.specs.declared.ask.Answer.{Answer}
use Rattle.jlr_machine.specs.declared.ask.Answer.TheVariants.{Done, Handle, Refused, Truth}
use Rattle.jlr_event.specs.declared.event.Event.{Event}
use Rattle.jlr_machine.specs.declared.ask.Ask.TheVariants.{Abandon, Begin, Clean, Close, Full, Leave, Prepare}
use Rattle.jlr_event.specs.declared.event.Event.TheVariants.{Ask as Asks, Opened}
use Rattle.jlr_event.specs.declared.event.Reply.{Reply}
use Rattle.jlr_event.specs.Events.{answer_in, resource_of_reply}
use Rattle.jlr_log.specs.Views.{own}
use Rattle.jlr_book.specs.Histories.{History}
use Rattle.jlr_book.specs.Due.{IsCycleDue}
use Rattle.jlr_hall.specs.declared.step.Step.{Step}
use Rattle.jlr_hall.specs.OneHistory.{IsWhole, is_refused_reply, seat_of}

-- ---- What answers say

abbrev pub answers_handle : Option Answer → Bool
answers_handle (Some (Handle h)) = true
answers_handle answer = false

-- a cycle began, or a whole collection was done
abbrev pub is_collected : Option Answer → Bool
is_collected (Some (Truth began)) = began
is_collected (Some Done) = true
is_collected answer = false

-- an open cycle was given up
abbrev pub is_given_up : Option Answer → Bool
is_given_up (Some (Truth was_open)) = was_open
is_given_up answer = false

-- there is no room for a resource
abbrev pub is_resources_full : Option Answer → Bool
is_resources_full (Some (Refused ResourcesFull)) = true
is_resources_full answer = false

module _ {R : Type 0} where
  -- ---- What a session has open

  -- one more where it opened a resource, one less but never below none where it was given one to finish it, and none
  -- once it left
  abbrev pub count_after : ℕ → Event R → Reply R → ℕ
  count_after n (Opened k outcome) reply = cond (answers_handle (answer_in reply)) (n + 1) n
  count_after n (Asks (Clean k c)) reply = cond (is_some (resource_of_reply reply)) (n - 1) n
  count_after n (Asks (Close k h)) reply = cond (is_some (resource_of_reply reply)) (n - 1) n
  count_after n (Asks (Leave k)) reply = cond (is_refused_reply (answer_in reply)) n 0
  count_after n event reply = n

  -- how many the session at a seat has open, by all that the seat asked
  abbrev pub open_at : ℕ → List (Step R) → ℕ
  open_at seat log = fold (λ n e. count_after n e.event e.reply) 0 (own seat_of seat log)

  -- ---- What is owed

  -- a session leaves that has so many open, there is no room for a resource, or an open cycle is given up
  abbrev pub owes : ℕ → Event R → Reply R → Bool
  owes n (Asks (Leave k)) reply = not (is_refused_reply (answer_in reply)) && nat_lt 0 n
  owes n (Asks (Prepare k)) reply = is_resources_full (answer_in reply)
  owes n (Asks Abandon) reply = is_given_up (answer_in reply)
  owes n event reply = false

  -- a cycle begins, or all is collected at once
  abbrev pub settles : Event R → Reply R → Bool
  settles (Asks Begin) reply = is_collected (answer_in reply)
  settles (Asks (Full k mode)) reply = is_collected (answer_in reply)
  settles event reply = false

  -- a step owes a cycle, and none since it settled that
  pub record IsOwed (log : List (Step R)) : Type 0 where
    pub earlier : List (Step R)
    pub step : Step R
    pub later : List (Step R)
    pub parts : log ≡ earlier ++ step ∷ later
    pub owing : owes (open_at step.seat earlier) step.event step.reply ≡ true
    pub unsettled : All (λ (e : Step R). settles e.event e.reply ≡ false) later

  -- ---- What is due

  -- no cycle is open, and one is due by the cells that were taken, or owed
  abbrev pub IsDueIn : History R → List (Step R) → Type 0
  IsDueIn book log = (book.core.machine.cycle_open ≡ false) × (IsCycleDue book ⊎ IsOwed log)

  -- one is due, or to be marked
  abbrev pub HasMarking : History R → List (Step R) → Type 0
  HasMarking book log = (book.core.machine.cycle_open ≡ true) ⊎ IsDueIn book log

  -- one was due in a history that lay under the lock
  abbrev pub IsDueAt : Limits → List (Step R) → Type 0
  IsDueAt limits log = (book : History R) × IsWhole limits book log × IsDueIn book log

  -- ---- What the handler and the cleaner would find

  -- something was pending in a history that lay under the lock
  abbrev pub HasPending : Limits → List (Step R) → Type 0
  HasPending limits log = (book : History R) × IsWhole limits book log × (book.core.machine.pending ≢ [])

  -- something stood in the cleaner's line
  abbrev pub HasLine : Limits → List (Step R) → Type 0
  HasLine limits log = (book : History R) × IsWhole limits book log × (book.core.machine.line ≢ [])
