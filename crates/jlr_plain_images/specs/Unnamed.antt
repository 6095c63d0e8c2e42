-- The test that nobody names what is private.
use Rattle.std.specs.Prelude.{ℕ, Bool, false, not, ◌&&◌}
use Rattle.std.specs.List.{list_all}
use Rattle.jlr_machine.specs.declared.object.Contents.{Contents}
use Rattle.jlr_machine.specs.declared.object.Object.{Object}
use Rattle.jlr_machine.specs.declared.object.Object.TheVariants.{Cleanable, Guard}
use Rattle.jlr_machine.specs.declared.object.Reference.{Reference as ReferenceOf}
use Rattle.jlr_machine.specs.declared.machine.Machine.{Machine}
use Rattle.jlr_machine.specs.declared.machine.Session.{Session}
use Rattle.jlr_machine.specs.declared.machine.ResourceState.TheVariants.{Opening}
use Rattle.jlr_machine.specs.Objects.{at, some_and}
use Rattle.jlr_machine.specs.Lookups.{cleanable_at}
use Rattle.jlr_plain_images.specs.Places.{none_or, each_slot, on_plain, on_reference}
use Rattle.jlr_plain_images.specs.Resources.{is_on_resource}
use Rattle.jlr_plain_images.specs.Calls.{is_in_call}

-- a cleanable whose work is a resource, or a guard whose cleanable is Armed and whose resource is Opening
abbrev pub is_private_object : Machine → Object → Bool
is_private_object m (Cleanable c) = is_on_resource c.work
is_private_object m (Guard g) = some_and (is_in_call m g.rid Opening) (cleanable_at m g.cleanable)
is_private_object m _ = false

-- what is at s is not private
abbrev pub is_public : Machine → ℕ → Bool
is_public m s = not (some_and (is_private_object m) (at m.objects s))

-- no handle of the mutator names what is private
abbrev pub handles_public : Machine → Session → Bool
handles_public m s = list_all (none_or (is_public m)) s.handles

-- no field or element of the object refers to it
abbrev pub fields_public : Machine → Contents → Bool
fields_public m fields = each_slot (is_public m) fields

-- the reference does not refer to it
abbrev pub referent_public : Machine → ReferenceOf → Bool
referent_public m r = none_or (is_public m) r.referent

-- nobody names what is private
abbrev pub private_fit : Machine → Bool
private_fit m =
    list_all (none_or (handles_public m)) m.mutators
    && list_all (λ b. is_public m b.slot) m.names
    && list_all (none_or (on_plain (fields_public m))) m.objects
    && list_all (none_or (on_reference (referent_public m))) m.objects
