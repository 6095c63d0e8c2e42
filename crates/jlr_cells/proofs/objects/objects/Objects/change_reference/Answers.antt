use Rattle.std.proofs.Common.{ap}
use Rattle.jlr_cells.specs.Holding.{Holding}
use Rattle.jlr_machine.specs.Objects.{some_and, with_reference}
use Rattle.jlr_machine.specs.Refusals.{is_reference}
use Rattle.jlr_cells.specs.Changes.{altered_reference}
use Rattle.jlr_cells.proofs.Slots.{object_of_reference}
use Rattle.jlr_cells.proofs.Shown.{changed_are, changed_view, holds_below, reference_gives_none}
use Rattle.jlr_cells.proofs.objects.objects.Objects.change_reference.Goals as goal

pub change_reference-requires : goal.change_reference-requires
change_reference-requires c =
    let inside = c.self.inside in
    holds_below inside.store inside.occupancy.places inside.occupancy.used inside.listed c.self.invariant
    c.args.self.now.objects
    (ap (λ (h : Holding). h.objects) c.self.view_is) (some_and is_reference) c.args.slot object_of_reference c.requires

pub invariant_of-self : goal.invariant_of-self
invariant_of-self c =
    let inside = c.self.inside in
    changed_are inside.store inside.occupancy.places inside.occupancy.used inside.listed c.self.invariant
    c.args.self.now.objects
    (ap (λ (h : Holding). h.objects) c.self.view_is) c.args.slot (with_reference (altered_reference c.args.change))
    c.change_reference.new.self (reference_gives_none (altered_reference c.args.change)) c.change_reference.ensures

pub returns-clause-objects : goal.returns-clause-objects
returns-clause-objects c =
    let inside = c.self.inside in
    changed_view inside.store inside.occupancy.places inside.occupancy.used inside.listed c.self.invariant
    c.args.self.now.objects
    (ap (λ (h : Holding). h.objects) c.self.view_is) c.args.slot (with_reference (altered_reference c.args.change))
    c.change_reference.new.self (object_of_reference _ c.requires) c.change_reference.ensures
