use Rattle.std.proofs.Common.{◌∙◌, Some, ap, arith}
use Rattle.jlr_types.specs.declared.FieldValue.{FieldValue}
use Rattle.jlr_cells.specs.Contents.{field_at}
use Rattle.jlr_barrier.proofs.Fitting.{object_within}
use Rattle.jlr_barrier.proofs.Overwriting.{overwritten, shaded_as_held}
use Rattle.jlr_barrier.proofs.heap.Heap.store.Goals as goal

pub invariant_of-self : goal.invariant_of-self
invariant_of-self c =
    let s = c.self.inside in
    rw c.set_field-old.ensures.objects
    (overwritten _ _ _ c.args.slot c.args.field c.args.value c.shade_value.new.marks c.self.invariant
    (rw (← c.self.view_is) at c.requires.field)
    (rw (← c.self.view_is) at c.requires.held)
    (rw (← c.self.view_is) at c.requires.object)
    (shaded_as_held (field_at s.cells.objects c.args.slot c.args.field) c.set_field-old.result s.marks c.shade_value.new.marks
    c.set_field-old.ensures.old c.shade_value.ensures))

pub shade_value-requires : goal.shade_value-requires
shade_value-requires c =
    let s = c.self.inside in
    let object = rw (← c.self.view_is) at c.requires.object in
    λ x e. (let here = object_within s.cells.objects x (object x (c.set_field-old.ensures.old ∙ ap (λ (v : FieldValue). Some v) e)) in
    omega (arith, here, c.self.invariant.bits))
