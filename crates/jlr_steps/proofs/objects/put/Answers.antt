use Rattle.std.proofs.Common.{◌≡◌, Some, inl, ◌∙◌}
use Rattle.jlr_state.specs.Machines.{machine_of}
use Rattle.jlr_marker.proofs.Following.{object_within}
use Rattle.jlr_state.proofs.Named.{named_object}
use Rattle.jlr_state.proofs.Hands.{field_object, held_in_hand, named_held}
use Rattle.jlr_state.proofs.Shading.{by_field, shaded_new}
use Rattle.jlr_steps.proofs.objects.put.Goals as goal

-- a handle stands for an object
pub check_plain-requires : goal.check_plain-requires
check_plain-requires g c =
    named_object (machine_of c.args.state.now) c.args.by c.args.object c.in_ok-slot.slot c.requires
    (c.in_ok-named.ensures.0 ∙ c.in_ok-slot.ensures.ok_part)

-- which lies within the heap
pub store-requires-clause-within : goal.store-requires-clause-within
store-requires-clause-within g c =
    λ s e.
    let target : c.in_ok-target.target ≡ Some s = cc in
    object_within c.args.state.now.heap.graph.objects s
    (named_object (machine_of c.args.state.now) c.args.by c.args.value s c.requires (c.in_ok-target.ensures.0 ∙ target))

-- and is in hand
pub store-requires-clause-held : goal.store-requires-clause-held
store-requires-clause-held g c =
    λ s e.
    let target : c.in_ok-target.target ≡ Some s = cc in
    let m = c.args.state.now in
    held_in_hand m.heap s (named_held (machine_of m) c.args.by c.args.value s (c.in_ok-target.ensures.0 ∙ target))

-- a field held an object before
pub store-requires-clause-object : goal.store-requires-clause-object
store-requires-clause-object g c = λ s e. field_object (machine_of c.args.state.now) c.requires c.in_ok-slot.slot c.number.result s e

-- what the field held was reached
pub returns-clause-marks : goal.returns-clause-marks
returns-clause-marks g c =
    let s = c.args.state.now in
    shaded_new (machine_of s) _ s.heap.marking _ _ c.store.ensures.shaded
    (λ x e. inl (by_field (machine_of s) s.heap.marking c.args.by c.args.object c.in_ok-slot.slot c.number.result x
    (c.in_ok-named.ensures.0 ∙ c.in_ok-slot.ensures.ok_part) e))
