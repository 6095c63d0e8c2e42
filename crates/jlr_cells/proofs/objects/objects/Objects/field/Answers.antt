use Rattle.jlr_cells.specs.Holding.{Holding}
use Rattle.std.proofs.Common.{◌∙◌, ap}
use Rattle.std.specs.Prelude.{is_some}
use Rattle.jlr_cells.specs.Contents.{field_in}
use Rattle.jlr_cells.proofs.Slots.{object_of_field}
use Rattle.jlr_cells.proofs.Shown.{holds_below, there}
use Rattle.jlr_cells.proofs.objects.objects.Objects.field.Goals as goal

pub field-requires : goal.field-requires
field-requires c = holds_below c.self.inside.store c.self.inside.occupancy.places c.self.inside.occupancy.used c.self.inside.listed
    c.self.invariant c.args.self.now.objects (ap (λ (h : Holding). h.objects) c.self.view_is) (λ o. is_some (field_in o c.args.field))
    c.args.slot (λ o. object_of_field o c.args.field) c.requires

pub returns : goal.returns
returns c = ap (λ o. field_in o c.args.field) (there c.self.inside.store c.self.inside.occupancy.places c.self.inside.occupancy.used
    c.self.inside.listed c.self.invariant c.args.self.now.objects (ap (λ (h : Holding). h.objects) c.self.view_is) c.args.slot
    (object_of_field _ c.args.field c.requires)) ∙ c.field.ensures
