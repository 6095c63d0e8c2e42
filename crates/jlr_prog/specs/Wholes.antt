-- A book with the entries that its cuts let go, so that all since opening are told.
use Rattle.std.specs.Prelude.{◌≡◌, ℕ, true, cond, List, [], ◌∷◌, ◌++◌, nat_lt}
use Rattle.jlr_machine.specs.declared.machine.Machine.{Machine}
use Rattle.jlr_machine.specs.declared.ask.Ask.TheVariants.{Abandon}
use Rattle.jlr_machine.specs.declared.ask.Answer.TheVariants.{Truth}
use Rattle.jlr_machine.specs.declared.entry.Entry.{Entry}
use Rattle.jlr_machine.specs.Run.{no_choice}
use Rattle.jlr_event.specs.declared.event.Event.{Event}
use Rattle.jlr_event.specs.declared.event.Reply.{Reply}
use Rattle.jlr_book.specs.Histories.{History}
use Rattle.jlr_device.specs.Handling.{Handling}
use Rattle.jlr_session.specs.Asks.{Asking}
use Rattle.jlr_book.specs.Rules.{BookSteps}
use Rattle.jlr_prog.specs.Settling.{Helpers, Settles}
use Rattle.jlr_book.specs.Histories.{cleaner_seat, handler_seat}

pub record WholeRun (R : Type 0) : Type 0 where
  pub book : History R
  -- the entries before the trace
  pub earlier : List Entry

abbrev pub since_opening : {R : Type 0} → WholeRun R → List Entry
since_opening x = x.earlier ++ x.book.entries

-- the entry by which a cut gives up an open cycle; it is of the seat whose ask cuts
abbrev pub given_up : ℕ → Machine → List Entry
given_up seat m =
    cond m.cycle_open (record { seat = seat; ask = Abandon; answer = Truth true; choice = no_choice } ∷ []) []

-- A step of the book. Where its base rose there was a cut, which let go the trace, and the entry of a cycle that it
-- gave up.
pub record WholeSteps {R : Type 0} (seat : ℕ) (old : WholeRun R) (event : Event R) (reply : Reply R) (new : WholeRun R)
    : Type
    0 where
  pub book : BookSteps seat old.book event reply new.book
  pub earlier : new.earlier ≡ old.earlier ++ cond (nat_lt old.book.base new.book.base)
      (old.book.entries ++ given_up seat old.book.core.machine) []

-- the handler and the cleaner of a book
abbrev pub at_whole : {R : Type 0} → Helpers (WholeRun R) R
at_whole = record {
  hands = λ old. WholeSteps (handler_seat old.book) old;
  cleans = λ old. WholeSteps (cleaner_seat old.book) old;
  pending = λ x. x.book.core.machine.pending;
  line = λ x. x.book.core.machine.line;
}

-- mutator 0 asks, and a settling is the steps of the handler and the cleaner
abbrev pub by_whole : {R : Type 0} → Handling R → Asking (WholeRun R) R
by_whole resource = record { mutator = λ _. 0; asks = WholeSteps 0; settling = Settles at_whole resource }
