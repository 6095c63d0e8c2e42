use Rattle.jlr_cells.specs.Holding.{Holding}
use Rattle.std.proofs.Common.{◌∙◌, ap, sym}
use Rattle.std.specs.Prelude.{option_and_then}
use Rattle.jlr_machine.specs.Objects.{as_cleanable}
use Rattle.jlr_cells.proofs.Shown.{there}
use Rattle.jlr_cells.proofs.objects.objects.Objects.cleanable.Goals as goal

pub returns : goal.returns
returns c = c.cleanable.ensures ∙ ap (option_and_then as_cleanable)
    (sym (there c.self.inside.store c.self.inside.occupancy.places c.self.inside.occupancy.used c.self.inside.listed c.self.invariant
    c.args.self.now.objects (ap (λ (h : Holding). h.objects) c.self.view_is) c.args.slot
    (sym c.is_occupied.ensures ∙ c.if-not-is_occupied.false)))
