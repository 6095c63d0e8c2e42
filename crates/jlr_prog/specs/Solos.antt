-- A book that one session has for itself.
use Rattle.jlr_device.specs.Handling.{Handling}
use Rattle.jlr_session.specs.Asks.{Asking}
use Rattle.jlr_book.specs.Histories.{History}
use Rattle.jlr_book.specs.Rules.{BookSteps}
use Rattle.jlr_prog.specs.Settling.{Helpers, Settles}
use Rattle.jlr_book.specs.Histories.{handler_seat, cleaner_seat}

-- the handler and the cleaner of a book
abbrev pub at_book : {R : Type 0} → Helpers (History R) R
at_book = record {
  hands = λ old. BookSteps (handler_seat old) old;
  cleans = λ old. BookSteps (cleaner_seat old) old;
  pending = λ h. h.core.machine.pending;
  line = λ h. h.core.machine.line;
}

-- mutator 0 asks, each ask is a step of the book, and a settling is those of the handler and the cleaner
abbrev pub by_book : {R : Type 0} → Handling R → Asking (History R) R
by_book resource = record { mutator = λ _. 0; asks = BookSteps 0; settling = Settles at_book resource }
