-- Which object a cell holds, and what is asked of objects.
use Rattle.std.specs.Prelude.{ℕ, Bool, true, false, List, [], ◌∷◌, Option, Some, None, map, option_and_then, option_map}
use Rattle.std.specs.Prelude.{slice_get}
use Rattle.jlr_types.specs.declared.FieldValue.{FieldValue}
use Rattle.jlr_types.specs.declared.FieldValue.TheVariants.{Int, Ref}
use Rattle.jlr_machine.specs.declared.object.Contents.TheVariants.{Typed, Elements}
use Rattle.jlr_machine.specs.declared.object.Object.{Object}
use Rattle.jlr_machine.specs.declared.object.Object.TheVariants.{Plain as PlainObject, Reference as ReferenceObject}
use Rattle.jlr_machine.specs.declared.object.Object.TheVariants.{Queue as QueueObject, Cleaner as CleanerObject}
use Rattle.jlr_machine.specs.declared.object.Object.TheVariants.{Cleanable as CleanableObject, Guard as GuardObject}
use Rattle.jlr_machine.specs.declared.object.Reference.{Reference as ReferenceOf}
use Rattle.jlr_machine.specs.declared.object.Cleanable.{Cleanable as CleanableOf}
use Rattle.jlr_machine.specs.declared.object.CleanState.{CleanState}
use Rattle.jlr_machine.specs.declared.object.CleanState.TheVariants.{Armed}
use Rattle.jlr_machine.specs.declared.object.RefState.{RefState}
use Rattle.jlr_machine.specs.declared.object.RefState.TheVariants.{Fresh}
use Rattle.jlr_machine.specs.Objects.{Heap, at, as_fields, as_members, as_reference, queue_ahead, value_at}
use Rattle.jlr_machine.specs.Objects.{with_members}
use Rattle.jlr_machine.specs.Lookups.{blank}
use Rattle.jlr_cells.specs.declared.cell.Cell.{Cell}
use Rattle.jlr_cells.specs.declared.cell.Cell.TheVariants.{Free, Plain, Array, Reference, Queue, Cleaner, Cleanable}
use Rattle.jlr_cells.specs.declared.cell.Cell.TheVariants.{Guard}
use Rattle.jlr_cells.specs.declared.shape.Kind.{Kind}
use Rattle.jlr_cells.specs.declared.shape.Kind.TheVariants.{Plain as PlainKind, Array as ArrayKind}
use Rattle.jlr_cells.specs.declared.shape.Kind.TheVariants.{Reference as ReferenceKind, Queue as QueueKind}
use Rattle.jlr_cells.specs.declared.shape.Kind.TheVariants.{Cleaner as CleanerKind, Cleanable as CleanableKind}
use Rattle.jlr_cells.specs.declared.shape.Kind.TheVariants.{Guard as GuardKind}
use Rattle.jlr_cells.specs.declared.shape.Shape.{Shape}
use Rattle.jlr_cells.specs.declared.shape.Shape.TheVariants.{Plain as PlainShape, Reference as ReferenceShape}
use Rattle.jlr_cells.specs.declared.shape.Shape.TheVariants.{Queue as QueueShape, Cleaner as CleanerShape}
use Rattle.jlr_cells.specs.declared.shape.Shape.TheVariants.{Cleanable as CleanableShape, Guard as GuardShape}

-- the object in a cell, if it is not free; a queue without its members, which stand in a list of their own
abbrev pub object_in : Cell → Option Object
object_in Free = None
object_in (Plain fields) = Some (PlainObject (Typed fields))
object_in (Array elements) = Some (PlainObject (Elements elements))
object_in (Reference r) = Some (ReferenceObject r)
object_in Queue = Some (QueueObject [])
object_in Cleaner = Some CleanerObject
object_in (Cleanable c) = Some (CleanableObject c)
object_in (Guard g) = Some (GuardObject g)

-- the objects in the cells, by slot, queues without their members
abbrev pub objects_in : List Cell → Heap
objects_in cells = map object_in cells

-- an object with these members, if it is a queue
abbrev pub with_list : List ℕ → Option Object → Option Object
with_list members o = option_map (with_members (λ _. members)) o

-- objects by slot, where the members of a queue are the list of its slot
abbrev pub with_lists : Heap → List (List ℕ) → Heap
with_lists [] lists = []
with_lists (o ∷ heap) [] = with_list [] o ∷ with_lists heap []
with_lists (o ∷ heap) (members ∷ lists) = with_list members o ∷ with_lists heap lists

-- the object that is made of a shape: its fields are 0 or null, a reference is Fresh, a queue has no members, a
-- cleanable is Armed
abbrev pub object_of : Shape → Object
object_of (PlainShape layout) = PlainObject (Typed (map blank layout))
object_of (ReferenceShape kind referent queue) =
    ReferenceObject (record { kind = kind; referent = referent; queue = queue; state = Fresh })
object_of QueueShape = QueueObject []
object_of CleanerShape = CleanerObject
object_of (CleanableShape referent action work) =
    CleanableObject (record { referent = referent; action = action; work = work; state = Armed })
object_of (GuardShape rid cleanable) = GuardObject (record { rid = rid; cleanable = cleanable })

-- of which kind an object is
abbrev pub kind_of : Object → Kind
kind_of (PlainObject (Typed fields)) = PlainKind
kind_of (PlainObject (Elements elements)) = ArrayKind
kind_of (ReferenceObject r) = ReferenceKind r.kind
kind_of (QueueObject members) = QueueKind
kind_of CleanerObject = CleanerKind
kind_of (CleanableObject c) = CleanableKind
kind_of (GuardObject g) = GuardKind

-- of which kind a cell's object is, if it is not free
abbrev pub kind_in : Cell → Option Kind
kind_in c = option_map kind_of (object_in c)

-- the kinds of the objects in the cells, by slot
abbrev pub kinds_in : List Cell → List (Option Kind)
kinds_in cells = map kind_in cells

-- a field or an element of an object, if it is a plain one and has that
abbrev pub field_in : Option Object → ℕ → Option FieldValue
field_in o field = option_and_then (λ fields. value_at fields field) (option_and_then as_fields o)

-- whether an object is an array
abbrev pub is_array : Object → Bool
is_array (PlainObject (Elements elements)) = true
is_array _ = false

-- whether a value may stand in an element
abbrev pub is_ref : FieldValue → Bool
is_ref (Ref s) = true
is_ref (Int n) = false

-- a field or an element of the object at a slot
abbrev pub field_at : Heap → ℕ → ℕ → Option FieldValue
field_at heap s field = field_in (at heap s) field

-- what an object refers to, if it is a reference and was not cleared
abbrev pub referent_in : Option Object → Option ℕ
referent_in o = option_and_then (λ r. r.referent) (option_and_then as_reference o)

-- what an object leads to beside fields and members: a reference to the queue that it may still be added to, a guard to
-- its cleanable
abbrev pub next_in_queue : Object → Option ℕ
next_in_queue (ReferenceObject r) = queue_ahead r
next_in_queue (GuardObject g) = Some g.cleanable
next_in_queue _ = None

abbrev pub next_in : Option Object → Option ℕ
next_in o = option_and_then next_in_queue o

-- a reference in another state, and one that is registered with no queue any more
abbrev pub in_state : RefState → ReferenceOf → ReferenceOf
in_state state r = record r { state = state }

abbrev pub unregistered : ReferenceOf → ReferenceOf
unregistered r = record r { queue = None }

-- a cleanable in another state, and one without referent
abbrev pub in_clean_state : CleanState → CleanableOf → CleanableOf
in_clean_state state c = record c { state = state }

abbrev pub cleanable_without_referent : CleanableOf → CleanableOf
cleanable_without_referent c = record c { referent = None }

-- and one that waits for an object
abbrev pub watching : ℕ → CleanableOf → CleanableOf
watching s c = record c { referent = Some s }

-- the members of an object, if it is a queue
abbrev pub members_in : Option Object → List ℕ
members_in None = []
members_in (Some (QueueObject members)) = members
members_in (Some _) = []

-- a member of an object, if it is a queue and has one at this place
abbrev pub member_in : Option Object → ℕ → Option ℕ
member_in o place = option_and_then (λ members. slice_get members place) (option_and_then as_members o)
