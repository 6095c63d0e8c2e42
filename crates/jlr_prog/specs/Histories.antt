-- A session as a history of the machine: what was asked, and what it was answered, each by a step of a book.
use Rattle.std.specs.Prelude.{◌≡◌, ◌⊎◌, ℕ, List, [], ◌∷◌, ◌++◌, length}
use Rattle.jlr_types.specs.declared.limits.Limits.{Limits}
use Rattle.jlr_machine.specs.declared.machine.Machine.{Machine}
use Rattle.jlr_machine.specs.declared.ask.Ask.{Ask}
use Rattle.jlr_machine.specs.declared.ask.Ask.TheVariants.{Join, Leave}
use Rattle.jlr_machine.specs.declared.ask.Answer.TheVariants.{Done}
use Rattle.jlr_machine.specs.declared.entry.Entry.{Entry}
use Rattle.jlr_machine.specs.Run.{Run, empty}
use Rattle.jlr_histories.specs.Promises.{KeepsPromises}
use Rattle.jlr_book.specs.Cores.{StandsIn}
use Rattle.jlr_device.specs.Handling.{Handling}
use Rattle.jlr_session.specs.Calls.{Opening}
use Rattle.jlr_session.specs.Serving.{Serves}
use Rattle.jlr_session.specs.declared.shell.SessionEnd.{SessionEnd}
use Rattle.jlr_book.specs.Histories.{History, IsNewBook}
use Rattle.jlr_prog.specs.Wholes.{WholeRun, by_whole, since_opening}

-- an ask of mutator 0, answered ok
abbrev pub IsOk : Ask → Entry → Type 0
IsOk ask e = (e.seat ≡ 0) × (e.ask ≡ ask) × (e.answer ≡ Done)

-- the join first and the leave last; or nothing, where there was no memory for the join's place
abbrev pub FromJoinToLeave : List Entry → Type 0
FromJoinToLeave entries =
    ((first : Entry) × (between : List Entry) × (last : Entry) × (entries ≡ first ∷ (between ++ last ∷ []))
    × IsOk (Join 0) first × IsOk (Leave 0) last) ⊎ (entries ≡ [])

-- A session over the empty heap of these limits, which left this book: mutator 0 joins, the bytes that came in, those
-- that went out and the calls of the device belong to what is asked then, and mutator 0 leaves. An ask that the book
-- declines is no entry. All entries since opening, those among them that cuts let go, are a run of the machine to one
-- for which the book's core stands, and keep what the package promises. at_end says that the input is at its end
pub record IsWholeSession {D R : Type 0} (device : Opening D R) (resource : Handling R) (limits : Limits)
    (at_end : Type 0)
    (end : SessionEnd) (bytes : List ℕ) (d : D) (out : List ℕ) (d' : D) (book : History R) : Type 0 where
  pub start : WholeRun R
  pub over : WholeRun R
  pub last : Machine
  pub begins : IsNewBook limits start.book
  pub none_before : start.earlier ≡ []
  pub is : over.book ≡ book
  pub numbered : length over.earlier ≡ book.base
  pub serves : Serves (by_whole resource) device resource at_end end bytes start d out over d'
  pub entries : FromJoinToLeave (since_opening over)
  pub run : Run (empty limits.cells limits.sessions limits.resources) (since_opening over) last
  pub stands : StandsIn book.core last
  pub promises : KeepsPromises (empty limits.cells limits.sessions limits.resources) (since_opening over)
