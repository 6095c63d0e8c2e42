-- What an entry takes to be written down: the items of a list answer, the bytes of one that tells what a call read, and
-- the slots of new objects.
use Rattle.std.specs.Prelude.{ℕ, ◌≤◌, length}
use Rattle.jlr_machine.specs.declared.machine.Machine.{Machine}
use Rattle.jlr_machine.specs.declared.ask.Ask.{Ask}
use Rattle.jlr_machine.specs.declared.ask.Ask.TheVariants.{Names as AskNames, Notes as AskNotes, Faults as AskFaults}
use Rattle.jlr_machine.specs.declared.ask.Ask.TheVariants.{CheckIn}
use Rattle.jlr_machine.specs.declared.ask.CallOutcome.TheVariants.{Data as GotData}
use Rattle.jlr_machine.specs.declared.ask.Answer.{Answer}
use Rattle.jlr_machine.specs.declared.ask.Answer.TheVariants.{Names, Notes, Faults, Data}
use Rattle.jlr_machine.specs.declared.entry.Entry.{Entry}
use Rattle.jlr_machine.specs.Refusals.{cells_needed}
use Rattle.jlr_machine.specs.Run.{IsLegal}
use Rattle.jlr_machine.specs.WellFormed.{IsWellFormed}

-- how many items of each kind of list there is room for, and how many times the bytes of a call
pub record Rooms : Type 0 where
  pub names : ℕ
  pub notes : ℕ
  pub faults : ℕ
  pub bytes : ℕ

abbrev pub FitsRooms : Rooms → Answer → Type 0
FitsRooms room (Names items) = length items ≤ room.names
FitsRooms room (Notes items) = length items ≤ room.notes
FitsRooms room (Faults items) = length items ≤ room.faults
FitsRooms room (Data bytes) = 1 ≤ room.bytes
FitsRooms room answer = Unit {0}

-- the most items of a list
abbrev pub most_items : ℕ
most_items = 256

-- there is room for the list that this ask is answered by, or for what a call read
abbrev pub HasRoomFor : Ask → Rooms → Type 0
HasRoomFor (AskNames k) room = most_items ≤ room.names
HasRoomFor (AskNotes k) room = most_items ≤ room.notes
HasRoomFor (AskFaults k) room = most_items ≤ room.faults
HasRoomFor (CheckIn k (GotData bytes)) room = 1 ≤ room.bytes
HasRoomFor ask room = Unit {0}

-- ---- Laws

abbrev pub AnswersFit : Type 0
AnswersFit = (m : Machine) (e : Entry) (room : Rooms) → IsWellFormed m → IsLegal m e → HasRoomFor e.ask room
    → FitsRooms room e.answer

-- no more new objects than the ask makes
abbrev pub NewObjectsFit : Type 0
NewObjectsFit = (m : Machine) (e : Entry) → IsLegal m e → length e.choice.fresh ≤ cells_needed e.ask
