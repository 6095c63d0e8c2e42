use Rattle.jlr_cells.specs.Holding.{Holding}
use Rattle.std.proofs.Common.{◌∙◌, ap, sym}
use Rattle.std.specs.Prelude.{is_some, option_map}
use Rattle.jlr_cells.specs.Contents.{kind_of}
use Rattle.jlr_cells.proofs.Shown.{there}
use Rattle.jlr_cells.proofs.objects.objects.Objects.kind.Goals as goal

pub returns-clause-kind : goal.returns-clause-kind
returns-clause-kind c = c.kind.ensures.kind ∙ ap (option_map kind_of)
    (sym (there c.self.inside.store c.self.inside.occupancy.places c.self.inside.occupancy.used c.self.inside.listed c.self.invariant
    c.args.self.now.objects (ap (λ (h : Holding). h.objects) c.self.view_is) c.args.slot
    (sym c.is_occupied.ensures ∙ c.if-not-is_occupied.false)))

pub returns-clause-object : goal.returns-clause-object
returns-clause-object c = c.kind.ensures.object ∙ ap is_some
    (sym (there c.self.inside.store c.self.inside.occupancy.places c.self.inside.occupancy.used c.self.inside.listed c.self.invariant
    c.args.self.now.objects (ap (λ (h : Holding). h.objects) c.self.view_is) c.args.slot
    (sym c.is_occupied.ensures ∙ c.if-not-is_occupied.false)))
