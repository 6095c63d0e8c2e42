-- How asks are spelled and read, and which have a spelling.
use Rattle.std.specs.Prelude.{ℕ, zero, suc, ◌<◌, ◌≤◌, ◌^◌, ◌==◌, List, [], ◌∷◌, ◌++◌, length, Option, Some, None, Ok}
use Rattle.std.specs.Prelude.{Err, if◌then◌else◌}
use Rattle.std.specs.List.{flat_map}
use Rattle.std.specs.Int.{w16, w32, w64}
use Rattle.jlr_types.specs.declared.FieldKind.{FieldKind}
use Rattle.jlr_types.specs.declared.FieldKind.TheVariants.{Int as IntField, Ref as RefField}
use Rattle.jlr_types.specs.declared.Fault.TheVariants.{NotFound, Denied, Other}
use Rattle.jlr_machine.specs.declared.ask.Outcome.{Outcome}
use Rattle.jlr_machine.specs.declared.ask.Outcome.TheVariants.{Ok as OutcomeOk, Failed}
use Rattle.jlr_machine.specs.declared.ask.FullMode.{FullMode}
use Rattle.jlr_machine.specs.declared.ask.FullMode.TheVariants.{Policy, ClearAll}
use Rattle.jlr_machine.specs.declared.ask.CallOutcome.{CallOutcome}
use Rattle.jlr_machine.specs.declared.ask.CallOutcome.TheVariants.{Data as GotData, Wrote as GotWrote}
use Rattle.jlr_machine.specs.declared.ask.CallOutcome.TheVariants.{Failed as GotFailed}
use Rattle.jlr_machine.specs.declared.ask.Ask.{Ask}
use Rattle.jlr_machine.specs.declared.ask.Ask.TheVariants.{Join, Leave, New, Put, Get, SetInt, Int, Dup, Drop, Same}
use Rattle.jlr_machine.specs.declared.ask.Ask.TheVariants.{MakeRef, Deref, Refers, Clear, Enqueue, Enqueued, MakeQueue}
use Rattle.jlr_machine.specs.declared.ask.Ask.TheVariants.{Poll, Remove, MakeCleaner, Register, Clean, Prepare, Opened}
use Rattle.jlr_machine.specs.declared.ask.Ask.TheVariants.{CheckOut, CheckIn, Close, Finish, Bind, Find, Unbind, Names}
use Rattle.jlr_machine.specs.declared.ask.Ask.TheVariants.{Full, Stat, Notes, Faults, HandOver, TakeUp, Begin, Collect}
use Rattle.jlr_machine.specs.declared.ask.Ask.TheVariants.{Abandon, Array}
use Rattle.jlr_trace_fields.specs.declared.fault.Fault.TheVariants.{Range}
use Rattle.jlr_trace_fields.specs.declared.version.Version.{Version}
use Rattle.jlr_trace_fields.specs.declared.version.Version.TheVariants.{One, Two}
use Rattle.jlr_trace_fields.specs.Spelling.{spelled_8, spelled_16, spelled_32, spelled_64, spelled_signed, spelled_text}
use Rattle.jlr_trace_fields.specs.Spelling.{IsSigned, IsText, IsWithin}
use Rattle.jlr_trace_fields.specs.Reading.{Reader, ◌>>=◌, one_field, two_fields, three_fields, four_fields, byte_at}
use Rattle.jlr_trace_fields.specs.Reading.{byte_within_at, number_at, number_within_at, signed_at, picked_at, bytes_at}
use Rattle.jlr_trace_fields.specs.Reading.{text_at}
use Rattle.jlr_machine.specs.Names.{is_name_byte}
use Rattle.jlr_trace_fields.specs.Items.{items_at}
use Rattle.jlr_trace_fields.specs.Tables.{ref_kinds, ref_kind_number, faults, fault_number}
use Rattle.jlr_trace_fields.specs.Records.{NameFits}
use Rattle.jlr_machine.specs.declared.ask.AskKind.{AskKind}
use Rattle.jlr_machine.specs.Refusals.{ask_kinds}
use Rattle.jlr_machine.specs.declared.ask.AskKind.TheVariants as to

-- ---- Tables

abbrev pub outcomes_by_number : List Outcome
outcomes_by_number = OutcomeOk ∷ Failed NotFound ∷ Failed Denied ∷ Failed Other ∷ []

abbrev pub outcome_number : Outcome → ℕ
outcome_number OutcomeOk = 0
outcome_number (Failed fault) = fault_number fault

abbrev pub modes : List FullMode
modes = Policy ∷ ClearAll ∷ []

abbrev pub mode_number : FullMode → ℕ
mode_number Policy = 0
mode_number ClearAll = 1

-- ---- Layouts: a count, and the letters r and i

abbrev pub spelled_kind : FieldKind → List ℕ
spelled_kind RefField = 114 ∷ []
spelled_kind IntField = 105 ∷ []

-- the letter of a field, where there is one
abbrev pub spelled_kind_at : Option FieldKind → List ℕ
spelled_kind_at None = []
spelled_kind_at (Some kind) = spelled_kind kind

abbrev pub spelled_layout : List FieldKind → List ℕ
spelled_layout layout = length layout ∷ flat_map spelled_kind layout

unfoldable pub kind_read : Reader FieldKind
kind_read bytes = do
  b ← byte_at bytes
  if b.0 == 114 then Ok (RefField, b.1) else (if b.0 == 105 then Ok (IntField, b.1) else Err Range)

unfoldable pub layout_read : Reader (List FieldKind)
layout_read bytes = byte_within_at 0 8 bytes >>= λ count. items_at kind_read count.0 count.1

-- ---- How a call ended

abbrev pub spelled_call_outcome : CallOutcome → List ℕ
spelled_call_outcome (GotData text) = 0 ∷ spelled_text text
spelled_call_outcome (GotWrote count) = 1 ∷ count ∷ []
spelled_call_outcome (GotFailed fault) = 2 ∷ fault_number fault ∷ []

abbrev pub CallOutcomeFits : CallOutcome → Type 0
CallOutcomeFits (GotData text) = IsText 0 200 text
CallOutcomeFits (GotWrote count) = IsWithin 0 200 count
CallOutcomeFits (GotFailed fault) = Unit {0}

abbrev pub call_outcome_behind : ℕ → Reader CallOutcome
call_outcome_behind zero bytes = one_field (bytes_at 0 200) GotData bytes
call_outcome_behind (suc zero) bytes = one_field (byte_within_at 0 200) GotWrote bytes
call_outcome_behind (suc (suc zero)) bytes = one_field (picked_at 1 faults) GotFailed bytes
call_outcome_behind (suc (suc (suc n))) bytes = Err Range

unfoldable pub call_outcome_read : Reader CallOutcome
call_outcome_read bytes = byte_at bytes >>= λ kind. call_outcome_behind kind.0 kind.1

-- ---- The number of a field: a byte in version 1, and two bytes in version 2

abbrev pub spelled_field : Version → ℕ → List ℕ
spelled_field One field = spelled_8 field
spelled_field Two field = spelled_16 field

abbrev pub FieldFits : Version → ℕ → Type 0
FieldFits One field = field < 256
FieldFits Two field = field < 4096

abbrev pub field_read : Version → Reader ℕ
field_read One bytes = byte_at bytes
field_read Two bytes = number_within_at w16 0 4095 bytes

-- ---- Asks: a number, and the fields in order

abbrev pub spelled_ask : Version → Ask → List ℕ
spelled_ask version (Join mutator) = 0 ∷ mutator ∷ []
spelled_ask version (Leave mutator) = 1 ∷ mutator ∷ []
spelled_ask version (New mutator layout) = 2 ∷ mutator ∷ spelled_layout layout
spelled_ask version (Put mutator object field value) = 3 ∷ mutator ∷ object ∷ spelled_field version field
    ++ spelled_8 value
spelled_ask version (Get mutator object field) = 4 ∷ mutator ∷ object ∷ spelled_field version field
spelled_ask version (SetInt mutator object field value) = 5 ∷ mutator ∷ object ∷ spelled_field version field
    ++ spelled_signed value
spelled_ask version (Int mutator object field) = 6 ∷ mutator ∷ object ∷ spelled_field version field
spelled_ask version (Dup mutator object) = 7 ∷ mutator ∷ object ∷ []
spelled_ask version (Drop mutator object) = 8 ∷ mutator ∷ object ∷ []
spelled_ask version (Same mutator left right) = 9 ∷ mutator ∷ left ∷ right ∷ []
spelled_ask version (MakeRef mutator kind referent queue) = 10 ∷ mutator ∷ ref_kind_number kind ∷ referent ∷ queue ∷ []
spelled_ask version (Deref mutator reference) = 11 ∷ mutator ∷ reference ∷ []
spelled_ask version (Refers mutator reference object) = 12 ∷ mutator ∷ reference ∷ object ∷ []
spelled_ask version (Clear mutator reference) = 13 ∷ mutator ∷ reference ∷ []
spelled_ask version (Enqueue mutator reference) = 14 ∷ mutator ∷ reference ∷ []
spelled_ask version (Enqueued mutator reference) = 15 ∷ mutator ∷ reference ∷ []
spelled_ask version (MakeQueue mutator) = 16 ∷ mutator ∷ []
spelled_ask version (Poll mutator queue) = 17 ∷ mutator ∷ queue ∷ []
spelled_ask version (Remove mutator queue) = 18 ∷ mutator ∷ queue ∷ []
spelled_ask version (MakeCleaner mutator) = 19 ∷ mutator ∷ []
spelled_ask version (Register mutator cleaner object note) = 20 ∷ mutator ∷ cleaner ∷ object ∷ spelled_32 note
spelled_ask version (Clean mutator cleanable) = 21 ∷ mutator ∷ cleanable ∷ []
spelled_ask version (Prepare mutator) = 22 ∷ mutator ∷ []
spelled_ask version (Opened mutator outcome) = 23 ∷ mutator ∷ outcome_number outcome ∷ []
spelled_ask version (CheckOut mutator guard) = 24 ∷ mutator ∷ guard ∷ []
spelled_ask version (CheckIn mutator outcome) = 25 ∷ mutator ∷ spelled_call_outcome outcome
spelled_ask version (Close mutator guard) = 26 ∷ mutator ∷ guard ∷ []
spelled_ask version (Finish by action outcome) = 27 ∷ by ∷ spelled_64 action ++ spelled_8 (outcome_number outcome)
spelled_ask version (Bind mutator name object) = 28 ∷ mutator ∷ spelled_text name ++ spelled_8 object
spelled_ask version (Find mutator name) = 29 ∷ mutator ∷ spelled_text name
spelled_ask version (Unbind mutator name) = 30 ∷ mutator ∷ spelled_text name
spelled_ask version (Names mutator) = 31 ∷ mutator ∷ []
spelled_ask version (Full mutator mode) = 32 ∷ mutator ∷ mode_number mode ∷ []
spelled_ask version (Stat mutator) = 33 ∷ mutator ∷ []
spelled_ask version (Notes mutator) = 34 ∷ mutator ∷ []
spelled_ask version (Faults mutator) = 35 ∷ mutator ∷ []
spelled_ask version HandOver = 36 ∷ []
spelled_ask version TakeUp = 37 ∷ []
spelled_ask version Begin = 38 ∷ []
spelled_ask version Collect = 39 ∷ []
spelled_ask version Abandon = 40 ∷ []
spelled_ask version (Array mutator length) = 41 ∷ mutator ∷ spelled_16 length

-- version 1 has no arrays
abbrev pub ArrayFits : Version → ℕ → ℕ → Type 0
ArrayFits One mutator length = ⊥
ArrayFits Two mutator length = (mutator < 256) × IsWithin 1 4096 length

abbrev pub AskFits : Version → Ask → Type 0
AskFits version (Join mutator) = mutator < 256
AskFits version (Leave mutator) = mutator < 256
AskFits version (New mutator layout) = (mutator < 256) × (length layout ≤ 8)
AskFits version (Put mutator object field value) = (mutator < 256) × (object < 256) × (FieldFits version field)
    × (value < 256)
AskFits version (Get mutator object field) = (mutator < 256) × (object < 256) × (FieldFits version field)
AskFits version (SetInt mutator object field value) = (mutator < 256) × (object < 256) × (FieldFits version field)
    × (IsSigned value)
AskFits version (Int mutator object field) = (mutator < 256) × (object < 256) × (FieldFits version field)
AskFits version (Dup mutator object) = (mutator < 256) × (object < 256)
AskFits version (Drop mutator object) = (mutator < 256) × (object < 256)
AskFits version (Same mutator left right) = (mutator < 256) × (left < 256) × (right < 256)
AskFits version (MakeRef mutator kind referent queue) = (mutator < 256) × (referent < 256) × (queue < 256)
AskFits version (Deref mutator reference) = (mutator < 256) × (reference < 256)
AskFits version (Refers mutator reference object) = (mutator < 256) × (reference < 256) × (object < 256)
AskFits version (Clear mutator reference) = (mutator < 256) × (reference < 256)
AskFits version (Enqueue mutator reference) = (mutator < 256) × (reference < 256)
AskFits version (Enqueued mutator reference) = (mutator < 256) × (reference < 256)
AskFits version (MakeQueue mutator) = mutator < 256
AskFits version (Poll mutator queue) = (mutator < 256) × (queue < 256)
AskFits version (Remove mutator queue) = (mutator < 256) × (queue < 256)
AskFits version (MakeCleaner mutator) = mutator < 256
AskFits version (Register mutator cleaner object note) = (mutator < 256) × (cleaner < 256) × (object < 256)
    × (note < 2 ^ 32)
AskFits version (Clean mutator cleanable) = (mutator < 256) × (cleanable < 256)
AskFits version (Prepare mutator) = mutator < 256
AskFits version (Opened mutator outcome) = mutator < 256
AskFits version (CheckOut mutator guard) = (mutator < 256) × (guard < 256)
AskFits version (CheckIn mutator outcome) = (mutator < 256) × (CallOutcomeFits outcome)
AskFits version (Close mutator guard) = (mutator < 256) × (guard < 256)
AskFits version (Finish by action outcome) = (by < 256) × (action < 2 ^ 64)
AskFits version (Bind mutator name object) = (mutator < 256) × (NameFits name) × (object < 256)
AskFits version (Find mutator name) = (mutator < 256) × (NameFits name)
AskFits version (Unbind mutator name) = (mutator < 256) × (NameFits name)
AskFits version (Names mutator) = mutator < 256
AskFits version (Full mutator mode) = mutator < 256
AskFits version (Stat mutator) = mutator < 256
AskFits version (Notes mutator) = mutator < 256
AskFits version (Faults mutator) = mutator < 256
AskFits version HandOver = Unit {0}
AskFits version TakeUp = Unit {0}
AskFits version Begin = Unit {0}
AskFits version Collect = Unit {0}
AskFits version Abandon = Unit {0}
AskFits version (Array mutator length) = ArrayFits version mutator length

-- version 1 has no arrays
abbrev pub array_read : Version → Reader Ask
array_read One bytes = Err Range
array_read Two bytes = two_fields byte_at (number_within_at w16 1 4096) Array bytes

-- what stands behind the number of an ask
abbrev pub ask_body : Version → AskKind → Reader Ask
ask_body version to.Join bytes = one_field byte_at Join bytes
ask_body version to.Leave bytes = one_field byte_at Leave bytes
ask_body version to.New bytes = two_fields byte_at layout_read New bytes
ask_body version to.Put bytes = four_fields byte_at byte_at (field_read version) byte_at Put bytes
ask_body version to.Get bytes = three_fields byte_at byte_at (field_read version) Get bytes
ask_body version to.SetInt bytes = four_fields byte_at byte_at (field_read version) signed_at SetInt bytes
ask_body version to.Int bytes = three_fields byte_at byte_at (field_read version) Int bytes
ask_body version to.Dup bytes = two_fields byte_at byte_at Dup bytes
ask_body version to.Drop bytes = two_fields byte_at byte_at Drop bytes
ask_body version to.Same bytes = three_fields byte_at byte_at byte_at Same bytes
ask_body version to.MakeRef bytes = four_fields byte_at (picked_at 0 ref_kinds) byte_at byte_at MakeRef bytes
ask_body version to.Deref bytes = two_fields byte_at byte_at Deref bytes
ask_body version to.Refers bytes = three_fields byte_at byte_at byte_at Refers bytes
ask_body version to.Clear bytes = two_fields byte_at byte_at Clear bytes
ask_body version to.Enqueue bytes = two_fields byte_at byte_at Enqueue bytes
ask_body version to.Enqueued bytes = two_fields byte_at byte_at Enqueued bytes
ask_body version to.MakeQueue bytes = one_field byte_at MakeQueue bytes
ask_body version to.Poll bytes = two_fields byte_at byte_at Poll bytes
ask_body version to.Remove bytes = two_fields byte_at byte_at Remove bytes
ask_body version to.MakeCleaner bytes = one_field byte_at MakeCleaner bytes
ask_body version to.Register bytes = four_fields byte_at byte_at byte_at (number_at w32) Register bytes
ask_body version to.Clean bytes = two_fields byte_at byte_at Clean bytes
ask_body version to.Prepare bytes = one_field byte_at Prepare bytes
ask_body version to.Opened bytes = two_fields byte_at (picked_at 0 outcomes_by_number) Opened bytes
ask_body version to.CheckOut bytes = two_fields byte_at byte_at CheckOut bytes
ask_body version to.CheckIn bytes = two_fields byte_at call_outcome_read CheckIn bytes
ask_body version to.Close bytes = two_fields byte_at byte_at Close bytes
ask_body version to.Finish bytes = three_fields byte_at (number_at w64) (picked_at 0 outcomes_by_number) Finish bytes
ask_body version to.Bind bytes = three_fields byte_at (text_at 1 32 is_name_byte) byte_at Bind bytes
ask_body version to.Find bytes = two_fields byte_at (text_at 1 32 is_name_byte) Find bytes
ask_body version to.Unbind bytes = two_fields byte_at (text_at 1 32 is_name_byte) Unbind bytes
ask_body version to.Names bytes = one_field byte_at Names bytes
ask_body version to.Full bytes = two_fields byte_at (picked_at 0 modes) Full bytes
ask_body version to.Stat bytes = one_field byte_at Stat bytes
ask_body version to.Notes bytes = one_field byte_at Notes bytes
ask_body version to.Faults bytes = one_field byte_at Faults bytes
ask_body version to.HandOver bytes = Ok (HandOver, bytes)
ask_body version to.TakeUp bytes = Ok (TakeUp, bytes)
ask_body version to.Begin bytes = Ok (Begin, bytes)
ask_body version to.Collect bytes = Ok (Collect, bytes)
ask_body version to.Abandon bytes = Ok (Abandon, bytes)
ask_body version to.Array bytes = array_read version bytes

unfoldable pub ask_read : Version → Reader Ask
ask_read version bytes = picked_at 0 ask_kinds bytes >>= λ kind. ask_body version kind.0 kind.1
