-- What the types of a machine and of entries say of the numbers in them, for a file of version 2.
use Rattle.std.specs.Prelude.{ℕ, ◌<◌, ◌≤◌, ◌^◌, length, Option, Some, None}
use Rattle.std.specs.List.{AllByRecursion}
use Rattle.jlr_types.specs.declared.FieldValue.{FieldValue}
use Rattle.jlr_types.specs.declared.FieldValue.TheVariants.{Int, Ref}
use Rattle.jlr_machine.specs.declared.object.Object.{Object}
use Rattle.jlr_machine.specs.declared.object.Object.TheVariants.{Plain, Reference, Queue, Cleaner, Cleanable, Guard}
use Rattle.jlr_machine.specs.declared.object.Contents.{Contents}
use Rattle.jlr_machine.specs.declared.object.Contents.TheVariants.{Typed, Elements}
use Rattle.jlr_machine.specs.declared.machine.Session.{Session}
use Rattle.jlr_machine.specs.declared.machine.Machine.{Machine}
use Rattle.jlr_machine.specs.declared.ask.Answer.{Answer}
use Rattle.jlr_machine.specs.declared.ask.Answer.TheVariants.{Names, Notes, Faults}
use Rattle.jlr_machine.specs.declared.entry.Collected.{Collected}
use Rattle.jlr_machine.specs.Chosen.{Chosen}
use Rattle.jlr_machine.specs.declared.entry.Entry.{Entry}
use Rattle.jlr_trace_fields.specs.declared.version.Version.TheVariants.{Two}
use Rattle.jlr_trace_fields.specs.Spelling.{IsSigned, IsWithin}
use Rattle.jlr_trace_fields.specs.Objects.{WorkFits, GuardFits}
use Rattle.jlr_trace_fields.specs.Records.{NameFits, BindingFits, FailureFits, CallFits, JobFits, ResourceFits}
use Rattle.jlr_trace_entries.specs.Asks.{AskFits}
use Rattle.jlr_trace_entries.specs.Answers.{AnswerFits}
use Rattle.jlr_trace_entries.specs.Choices.{SlotIs}
use Rattle.jlr_trace_entries.specs.Images.{counts_of, CountsFit}

-- ---- Objects

abbrev pub ValueRange : FieldValue → Type 0
ValueRange (Int n) = IsSigned n
ValueRange (Ref s) = Unit {0}

abbrev pub ContentsRange : Contents → Type 0
ContentsRange (Typed fields) = (length fields ≤ 8) × AllByRecursion ValueRange fields
ContentsRange (Elements elements) = IsWithin 1 4096 (length elements)

abbrev pub ObjectRange : Object → Type 0
ObjectRange (Plain contents) = ContentsRange contents
ObjectRange (Reference r) = Unit {0}
ObjectRange (Queue members) = AllByRecursion SlotIs members
ObjectRange Cleaner = Unit {0}
ObjectRange (Cleanable c) = (c.action < 2 ^ 64) × WorkFits c.work
ObjectRange (Guard g) = GuardFits g

abbrev pub PlaceRange : Option Object → Type 0
PlaceRange None = Unit {0}
PlaceRange (Some o) = ObjectRange o

-- ---- Mutators

abbrev pub HandleRange : Option ℕ → Type 0
HandleRange None = Unit {0}
HandleRange (Some s) = SlotIs s

pub record SessionRange (s : Session) : Type 0 where
  pub handles : AllByRecursion HandleRange s.handles
  pub call : CallFits s.call

abbrev pub SeatRange : Option Session → Type 0
SeatRange None = Unit {0}
SeatRange (Some s) = SessionRange s

-- ---- Machines

abbrev pub NoteIs : ℕ → Type 0
NoteIs n = n < 2 ^ 32

pub record MachineRange (m : Machine) : Type 0 where
  pub objects : AllByRecursion PlaceRange m.objects
  pub mutators : AllByRecursion SeatRange m.mutators
  pub names : AllByRecursion BindingFits m.names
  pub pending : AllByRecursion SlotIs m.pending
  pub line : AllByRecursion SlotIs m.line
  pub jobs : AllByRecursion JobFits m.jobs
  pub resources : AllByRecursion ResourceFits m.resources
  pub faults : AllByRecursion FailureFits m.faults
  pub notes : AllByRecursion NoteIs m.notes
  pub counts : CountsFit (counts_of m)

-- ---- Entries

-- a list answer may have any length
abbrev pub AnswerRange : Answer → Type 0
AnswerRange (Names x) = AllByRecursion NameFits x
AnswerRange (Notes x) = AllByRecursion NoteIs x
AnswerRange (Faults x) = AllByRecursion FailureFits x
AnswerRange answer = AnswerFits answer

abbrev pub CollectedRange : Option Collected → Type 0
CollectedRange None = Unit {0}
CollectedRange (Some c) = AllByRecursion SlotIs c.kept × AllByRecursion SlotIs c.pending

pub record ChoiceRange (c : Chosen) : Type 0 where
  pub collected : CollectedRange c.collected
  pub fresh : AllByRecursion SlotIs c.fresh

pub record EntryRange (e : Entry) : Type 0 where
  pub seat : e.seat < 256
  pub ask : AskFits Two e.ask
  pub answer : AnswerRange e.answer
  pub choice : ChoiceRange e.choice

-- ---- Limits

-- the numbers of cells, mutators and resources are at least those that a trace file can tell, and resources at most
pub record LimitsInRange (m : Machine) : Type 0 where
  pub cells : 16 ≤ length m.objects
  pub sessions : 1 ≤ length m.mutators
  pub some_resources : 1 ≤ m.resource_limit
  pub few_resources : m.resource_limit ≤ 256
