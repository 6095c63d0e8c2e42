use Rattle.std.proofs.Common.{inl}
use Rattle.jlr_state.specs.Machines.{machine_of}
use Rattle.jlr_state.proofs.Hands.{field_object}
use Rattle.jlr_state.proofs.Shading.{by_field, shaded_new}
use Rattle.jlr_steps.proofs.objects.set_int.Goals as goal

pub store-requires-clause-object : goal.store-requires-clause-object
store-requires-clause-object g c = λ s e. field_object (machine_of c.args.state.now) c.requires c.in_ok-slot.slot c.number.result s e

-- what the field held was reached
pub returns-clause-marks : goal.returns-clause-marks
returns-clause-marks g c =
    let s = c.args.state.now in
    shaded_new (machine_of s) _ s.heap.marking _ _ c.store.ensures.shaded
    (λ x e. inl (by_field (machine_of s) s.heap.marking c.args.by c.args.object c.in_ok-slot.slot c.number.result x
    c.in_ok-slot.ensures.slot.0 e))
