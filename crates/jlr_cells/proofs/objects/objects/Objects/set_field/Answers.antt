use Rattle.jlr_cells.specs.Holding.{Holding}
use Rattle.std.proofs.Common.{◌∙◌, ap, arith}
use Rattle.std.specs.Prelude.{is_some}
use Rattle.jlr_machine.specs.Objects.{some_and, with_field}
use Rattle.jlr_machine.specs.Refusals.{is_record}
use Rattle.jlr_cells.specs.Contents.{field_in}
use Rattle.jlr_cells.proofs.Slots.{object_of_field}
use Rattle.jlr_cells.proofs.Shown.{changed_are, changed_view, field_gives_none, holds_below, long, there}
use Rattle.jlr_cells.proofs.objects.objects.Objects.set_field.Goals as goal

pub set_field-requires-clause-field : goal.set_field-requires-clause-field
set_field-requires-clause-field c = holds_below c.self.inside.store c.self.inside.occupancy.places c.self.inside.occupancy.used
    c.self.inside.listed c.self.invariant c.args.self.now.objects (ap (λ (h : Holding). h.objects) c.self.view_is)
    (λ o. is_some (field_in o c.args.field)) c.args.slot (λ o. object_of_field o c.args.field) c.requires.field

pub set_field-requires-clause-within : goal.set_field-requires-clause-within
set_field-requires-clause-within c = λ s e. omega (
  arith,
  c.requires.within s e,
  long c.self.inside.store c.self.inside.occupancy.places c.self.inside.occupancy.used c.self.inside.listed
      c.self.invariant c.args.self.now.objects (ap (λ (h : Holding). h.objects) c.self.view_is),
)

pub set_field-requires-clause-fits : goal.set_field-requires-clause-fits
set_field-requires-clause-fits c = λ e. c.requires.fits
    (ap (some_and is_record) (there c.self.inside.store c.self.inside.occupancy.places c.self.inside.occupancy.used c.self.inside.listed
    c.self.invariant c.args.self.now.objects (ap (λ (h : Holding). h.objects) c.self.view_is) c.args.slot
    (object_of_field _ c.args.field c.requires.field)) ∙ e)

pub invariant_of-self : goal.invariant_of-self
invariant_of-self c = changed_are c.self.inside.store c.self.inside.occupancy.places c.self.inside.occupancy.used c.self.inside.listed
    c.self.invariant c.args.self.now.objects (ap (λ (h : Holding). h.objects) c.self.view_is) c.args.slot
    (with_field c.args.field c.args.value) c.set_field.new.self (field_gives_none c.args.field c.args.value) c.set_field.ensures.new

pub returns-clause-old : goal.returns-clause-old
returns-clause-old c = ap (λ o. field_in o c.args.field)
    (there c.self.inside.store c.self.inside.occupancy.places c.self.inside.occupancy.used c.self.inside.listed c.self.invariant
    c.args.self.now.objects (ap (λ (h : Holding). h.objects) c.self.view_is) c.args.slot (object_of_field _ c.args.field c.requires.field))
    ∙ c.set_field.ensures.old

pub returns-clause-objects : goal.returns-clause-objects
returns-clause-objects c = changed_view c.self.inside.store c.self.inside.occupancy.places c.self.inside.occupancy.used c.self.inside.listed
    c.self.invariant c.args.self.now.objects (ap (λ (h : Holding). h.objects) c.self.view_is) c.args.slot
    (with_field c.args.field c.args.value) c.set_field.new.self (object_of_field _ c.args.field c.requires.field) c.set_field.ensures.new
