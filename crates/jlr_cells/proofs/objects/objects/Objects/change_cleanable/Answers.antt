use Rattle.std.proofs.Common.{ap}
use Rattle.jlr_cells.specs.Holding.{Holding}
use Rattle.jlr_machine.specs.Objects.{some_and, with_cleanable}
use Rattle.jlr_machine.specs.Refusals.{is_cleanable}
use Rattle.jlr_cells.specs.Changes.{altered_cleanable}
use Rattle.jlr_cells.proofs.Slots.{object_of_cleanable}
use Rattle.jlr_cells.proofs.Shown.{changed_are, changed_view, holds_below, cleanable_gives_none}
use Rattle.jlr_cells.proofs.objects.objects.Objects.change_cleanable.Goals as goal

pub change_cleanable-requires : goal.change_cleanable-requires
change_cleanable-requires c =
    let inside = c.self.inside in
    holds_below inside.store inside.occupancy.places inside.occupancy.used inside.listed c.self.invariant
    c.args.self.now.objects
    (ap (λ (h : Holding). h.objects) c.self.view_is) (some_and is_cleanable) c.args.slot object_of_cleanable c.requires

pub invariant_of-self : goal.invariant_of-self
invariant_of-self c =
    let inside = c.self.inside in
    changed_are inside.store inside.occupancy.places inside.occupancy.used inside.listed c.self.invariant
    c.args.self.now.objects
    (ap (λ (h : Holding). h.objects) c.self.view_is) c.args.slot (with_cleanable (altered_cleanable c.args.change))
    c.change_cleanable.new.self (cleanable_gives_none (altered_cleanable c.args.change)) c.change_cleanable.ensures

pub returns-clause-objects : goal.returns-clause-objects
returns-clause-objects c =
    let inside = c.self.inside in
    changed_view inside.store inside.occupancy.places inside.occupancy.used inside.listed c.self.invariant
    c.args.self.now.objects
    (ap (λ (h : Holding). h.objects) c.self.view_is) c.args.slot (with_cleanable (altered_cleanable c.args.change))
    c.change_cleanable.new.self (object_of_cleanable _ c.requires) c.change_cleanable.ensures
