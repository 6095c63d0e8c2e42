use Rattle.std.proofs.Common.{Some, ap, ◌∙◌}
use Rattle.jlr_types.specs.declared.FieldValue.TheVariants.{Ref}
use Rattle.jlr_state.specs.Machines.{machine_of}
use Rattle.jlr_state.proofs.Hands.{loaded_in_hand, named_held}
use Rattle.jlr_steps.proofs.objects.get.Goals as goal

-- what a field of a named object holds is in hand
pub give_or_null-requires : goal.give_or_null-requires
give_or_null-requires g c =
    let m = c.args.state.now in
    let x = c.in_ok-slot.slot in
    λ s e. loaded_in_hand m.heap x c.args.field s (named_held (machine_of m) c.args.by c.args.object x c.in_ok-slot.ensures.slot.0)
    (c.in_ok-target.ensures ∙ ap (λ t. Some (Ref t)) e)
