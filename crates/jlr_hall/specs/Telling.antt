-- What a step of a book adds to the one history.
use Rattle.std.specs.Prelude.{ℕ, false, cond, nat_lt, List, [], ◌∷◌}
use Rattle.jlr_event.specs.declared.event.Event.{Event}
use Rattle.jlr_event.specs.declared.event.Reply.{Reply}
use Rattle.jlr_event.specs.Events.{ask_of}
use Rattle.jlr_book.specs.Histories.{History, last}
use Rattle.jlr_hall.specs.declared.step.Step.{Step}
use Rattle.jlr_hall.specs.OneHistory.{step}
use Rattle.jlr_hall.specs.Asking.{is_trace_full, may_cut, with_cut}

module _ {R : Type 0} where
  -- the steps of the core: that of the event, unless the book declined it, and before it that of a cut
  abbrev pub added : ℕ → History R → Event R → Reply R → History R → List (Step R)
  added seat was event reply now =
      cond (may_cut (ask_of event))
      (cond (nat_lt (last was) (last now)) (with_cut seat was event reply (is_trace_full was)) [])
      (step seat event reply false ∷ [])
