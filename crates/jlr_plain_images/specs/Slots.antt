-- The test that each slot named is an object of the fitting kind.
use Rattle.std.specs.Prelude.{ℕ, Bool, true, ◌&&◌, is_some}
use Rattle.std.specs.List.{list_all}
use Rattle.jlr_machine.specs.declared.object.Contents.{Contents}
use Rattle.jlr_machine.specs.declared.object.Object.{Object}
use Rattle.jlr_machine.specs.declared.object.Object.TheVariants.{Plain, Reference, Queue, Cleaner, Cleanable, Guard}
use Rattle.jlr_machine.specs.declared.object.Reference.{Reference as ReferenceOf}
use Rattle.jlr_machine.specs.declared.object.Guard.{Guard as GuardOf}
use Rattle.jlr_machine.specs.declared.machine.Machine.{Machine}
use Rattle.jlr_machine.specs.declared.machine.Session.{Session}
use Rattle.jlr_machine.specs.Objects.{Heap, at, some_and, queue_ahead}
use Rattle.jlr_machine.specs.Refusals.{is_queue, is_cleanable}
use Rattle.jlr_plain_images.specs.Places.{none_or, each_slot, on_reference, on_guard}

-- there is an object at s
abbrev pub has_object_at : Heap → ℕ → Bool
has_object_at heap s = is_some (at heap s)

-- what the fields or elements refer to is there
abbrev pub fields_there : Heap → Contents → Bool
fields_there heap fields = each_slot (has_object_at heap) fields

-- what its strong edges and its referent name is there
abbrev pub edges_there : Heap → Object → Bool
edges_there heap (Plain fields) = fields_there heap fields
edges_there heap (Reference r) = none_or (has_object_at heap) (queue_ahead r) && none_or (has_object_at heap) r.referent
edges_there heap (Queue members) = list_all (has_object_at heap) members
edges_there heap Cleaner = true
edges_there heap (Cleanable c) = none_or (has_object_at heap) c.referent
edges_there heap (Guard g) = has_object_at heap g.cleanable

-- what a mutator names is there
abbrev pub session_there : Heap → Session → Bool
session_there heap s = list_all (none_or (has_object_at heap)) s.handles && none_or (has_object_at heap) s.fence

-- what handles, fences, names, the pending list and the line name is there; Armed and Pending cleanables are
abbrev pub roots_there : Machine → Bool
roots_there m =
    list_all (none_or (session_there m.objects)) m.mutators
    && list_all (λ b. has_object_at m.objects b.slot) m.names
    && list_all (has_object_at m.objects) m.pending
    && list_all (has_object_at m.objects) m.line

-- the reference's queue is a queue
abbrev pub queue_there : Heap → ReferenceOf → Bool
queue_there heap r = none_or (λ q. some_and is_queue (at heap q)) r.queue

-- the guard's cleanable is a cleanable
abbrev pub cleanable_there : Heap → GuardOf → Bool
cleanable_there heap g = some_and is_cleanable (at heap g.cleanable)

-- each slot named is an object of the fitting kind
abbrev pub slots_fit : Machine → Bool
slots_fit m =
    list_all (none_or (edges_there m.objects)) m.objects
    && roots_there m
    && list_all (none_or (on_reference (queue_there m.objects))) m.objects
    && list_all (none_or (on_guard (cleanable_there m.objects))) m.objects
