-- How objects are spelled and read, and which have a spelling.
use Rattle.std.specs.Prelude.{ℕ, zero, suc, ◌<◌, ◌≤◌, ◌^◌, Bool, true, false, List, [], ◌∷◌, ◌++◌, length, Ok, Err}
use Rattle.std.specs.Prelude.{Option}
use Rattle.std.specs.List.{flat_map, AllByRecursion}
use Rattle.std.specs.Int.{w16, w32, w64}
use Rattle.jlr_types.specs.declared.FieldValue.{FieldValue}
use Rattle.jlr_types.specs.declared.FieldValue.TheVariants.{Int, Ref}
use Rattle.jlr_types.specs.declared.Work.{Work}
use Rattle.jlr_types.specs.declared.Work.TheVariants.{Note, Resource as WorkOn}
use Rattle.jlr_machine.specs.declared.object.Object.{Object}
use Rattle.jlr_machine.specs.declared.object.Object.TheVariants.{Plain, Reference, Queue, Cleaner, Cleanable, Guard}
use Rattle.jlr_machine.specs.declared.object.Contents.{Contents}
use Rattle.jlr_machine.specs.declared.object.Contents.TheVariants.{Typed, Elements}
use Rattle.jlr_machine.specs.declared.object.Reference.{Reference as ReferenceOf}
use Rattle.jlr_machine.specs.declared.object.Cleanable.{Cleanable as CleanableOf}
use Rattle.jlr_machine.specs.declared.object.Guard.{Guard as GuardOf}
use Rattle.jlr_trace_fields.specs.declared.fault.Fault.TheVariants.{Range}
use Rattle.jlr_trace_fields.specs.declared.version.Version.{Version}
use Rattle.jlr_trace_fields.specs.declared.version.Version.TheVariants.{One, Two}
use Rattle.jlr_trace_fields.specs.Spelling.{spelled_8, spelled_16, spelled_32, spelled_64, spelled_signed}
use Rattle.jlr_trace_fields.specs.Spelling.{spelled_option}
use Rattle.jlr_trace_fields.specs.Spelling.{IsSigned, IsWithin, SlotFits}
use Rattle.jlr_trace_fields.specs.Reading.{Reader, ◌>>=◌, one_field, two_fields, four_fields, byte_at, byte_within_at}
use Rattle.jlr_trace_fields.specs.Reading.{number_at, number_within_at, signed_at, flag_at, option_at, picked_at}
use Rattle.jlr_trace_fields.specs.Items.{items_at, list_at, spelled_list, IsListed}
use Rattle.jlr_trace_fields.specs.Tables.{ref_kinds, ref_kind_number, ref_states, ref_state_number, clean_states}
use Rattle.jlr_trace_fields.specs.Tables.{clean_state_number}

-- ---- Fields

abbrev pub spelled_value : FieldValue → List ℕ
spelled_value (Int n) = 0 ∷ spelled_signed n
spelled_value (Ref s) = 1 ∷ spelled_option s

abbrev pub ValueFits : FieldValue → Type 0
ValueFits (Int n) = IsSigned n
ValueFits (Ref s) = SlotFits s

abbrev pub value_behind : Bool → Reader FieldValue
value_behind false = one_field signed_at Int
value_behind true = one_field option_at Ref

unfoldable pub value_read : Reader FieldValue
value_read bytes = flag_at bytes >>= λ is_slot. value_behind is_slot.0 is_slot.1

-- ---- Works

abbrev pub spelled_work : Work → List ℕ
spelled_work (Note n) = 0 ∷ spelled_32 n
spelled_work (WorkOn rid) = 1 ∷ spelled_32 rid

abbrev pub WorkFits : Work → Type 0
WorkFits (Note n) = n < 2 ^ 32
WorkFits (WorkOn rid) = rid < 2 ^ 32

abbrev pub work_behind : Bool → Reader Work
work_behind false = one_field (number_at w32) Note
work_behind true = one_field (number_at w32) WorkOn

unfoldable pub work_read : Reader Work
work_read bytes = flag_at bytes >>= λ is_resource. work_behind is_resource.0 is_resource.1

-- ---- Objects

-- what a plain object holds: its fields, or the elements of an array
abbrev pub spelled_contents : Contents → List ℕ
spelled_contents (Typed fields) = 1 ∷ length fields ∷ flat_map spelled_value fields
spelled_contents (Elements elements) = 7 ∷ spelled_16 (length elements) ++ flat_map spelled_option elements

abbrev pub spelled_reference : ReferenceOf → List ℕ
spelled_reference r = 2 ∷ ref_kind_number r.kind ∷ spelled_option r.referent ++ spelled_option r.queue
    ++ spelled_8 (ref_state_number r.state)

abbrev pub spelled_cleanable : CleanableOf → List ℕ
spelled_cleanable c = 5 ∷ spelled_option c.referent ++ spelled_64 c.action ++ spelled_work c.work
    ++ spelled_8 (clean_state_number c.state)

abbrev pub spelled_object : Object → List ℕ
spelled_object (Plain contents) = spelled_contents contents
spelled_object (Reference r) = spelled_reference r
spelled_object (Queue members) = 3 ∷ spelled_list spelled_32 members
spelled_object Cleaner = 4 ∷ []
spelled_object (Cleanable c) = spelled_cleanable c
spelled_object (Guard g) = 6 ∷ spelled_32 g.rid ++ spelled_32 g.cleanable

pub record ReferenceFits (r : ReferenceOf) : Type 0 where
  pub referent : SlotFits r.referent
  pub queue : SlotFits r.queue

pub record CleanableFits (c : CleanableOf) : Type 0 where
  pub referent : SlotFits c.referent
  pub action : c.action < 2 ^ 64
  pub work : WorkFits c.work

pub record GuardFits (g : GuardOf) : Type 0 where
  pub rid : g.rid < 2 ^ 32
  pub cleanable : g.cleanable < 2 ^ 32

-- version 1 has no arrays
abbrev pub ElementsFit : Version → List (Option ℕ) → Type 0
ElementsFit One elements = ⊥
ElementsFit Two elements = IsWithin 1 4096 (length elements) × AllByRecursion SlotFits elements

abbrev pub ContentsFit : Version → Contents → Type 0
ContentsFit version (Typed fields) = (length fields ≤ 8) × AllByRecursion ValueFits fields
ContentsFit version (Elements elements) = ElementsFit version elements

abbrev pub ObjectFits : Version → Object → Type 0
ObjectFits version (Plain contents) = ContentsFit version contents
ObjectFits version (Reference r) = ReferenceFits r
ObjectFits version (Queue members) = IsListed (λ s. s < 2 ^ 32) members
ObjectFits version Cleaner = Unit {0}
ObjectFits version (Cleanable c) = CleanableFits c
ObjectFits version (Guard g) = GuardFits g

-- its lists are short enough for their counts
abbrev pub ObjectCounts : Object → Type 0
ObjectCounts (Queue members) = length members < 2 ^ 32
ObjectCounts _ = Unit {0}

abbrev pub typed : List FieldValue → Object
typed fields = Plain (Typed fields)

unfoldable pub plain_read : Reader Object
plain_read bytes = byte_within_at 0 8 bytes >>= λ count. one_field (items_at value_read count.0) typed count.1

abbrev pub array : List (Option ℕ) → Object
array elements = Plain (Elements elements)

unfoldable pub array_read : Reader Object
array_read bytes = number_within_at w16 1 4096 bytes >>= λ count. one_field (items_at option_at count.0) array count.1

-- version 1 has no arrays
abbrev pub array_in : Version → Reader Object
array_in One bytes = Err Range
array_in Two bytes = array_read bytes

unfoldable pub reference_read : Reader Object
reference_read = four_fields (picked_at 0 ref_kinds) option_at option_at (picked_at 0 ref_states)
    (λ kind referent queue state. Reference (record { kind = kind; referent = referent; queue = queue; state = state }))

unfoldable pub queue_read : Reader Object
queue_read = one_field (list_at 4 (number_at w32)) Queue

unfoldable pub cleanable_read : Reader Object
cleanable_read = four_fields option_at (number_at w64) work_read (picked_at 0 clean_states)
    (λ referent action work state. Cleanable
    (record { referent = referent; action = action; work = work; state = state }))

unfoldable pub guard_read : Reader Object
guard_read =
    two_fields (number_at w32) (number_at w32) (λ rid cleanable. Guard (record { rid = rid; cleanable = cleanable }))

abbrev pub object_behind : Version → ℕ → Reader Object
object_behind version zero bytes = Err Range
object_behind version (suc zero) bytes = plain_read bytes
object_behind version (suc (suc zero)) bytes = reference_read bytes
object_behind version (suc (suc (suc zero))) bytes = queue_read bytes
object_behind version (suc (suc (suc (suc zero)))) bytes = Ok (Cleaner, bytes)
object_behind version (suc (suc (suc (suc (suc zero))))) bytes = cleanable_read bytes
object_behind version (suc (suc (suc (suc (suc (suc zero)))))) bytes = guard_read bytes
object_behind version (suc (suc (suc (suc (suc (suc (suc zero))))))) bytes = array_in version bytes
object_behind version (suc (suc (suc (suc (suc (suc (suc (suc n)))))))) bytes = Err Range

unfoldable pub object_read : Version → Reader Object
object_read version bytes = byte_at bytes >>= λ kind. object_behind version kind.0 kind.1
