use Rattle.jlr_cells.specs.Holding.{Holding}
use Rattle.std.proofs.Common.{◌≡◌, ◌∙◌, ◌++◌, ◌∷◌, [], ap, subst, sym}
use Rattle.std.specs.Prelude.{IfSome, is_some}
use Rattle.jlr_machine.specs.Objects.{some_and}
use Rattle.jlr_machine.specs.Edges.{edges_from}
use Rattle.jlr_machine.specs.Edges.Chain.{Strong}
use Rattle.jlr_machine.specs.Refusals.{is_record}
use Rattle.jlr_cells.specs.Links.{linked, linked_in}
use Rattle.jlr_cells.proofs.Shown.{holds_below, there}
use Rattle.jlr_cells.proofs.objects.objects.Objects.visit.Goals as goal

pub visit-requires-clause-object : goal.visit-requires-clause-object
visit-requires-clause-object c = holds_below c.self.inside.store c.self.inside.occupancy.places c.self.inside.occupancy.used
    c.self.inside.listed c.self.invariant c.args.self.now.objects (ap (λ (h : Holding). h.objects) c.self.view_is) is_some c.args.slot
    (λ o h. h) c.requires.object

pub returns-clause-plain : goal.returns-clause-plain
returns-clause-plain c = c.visit.ensures.plain ∙ ap (some_and is_record)
    (sym (there c.self.inside.store c.self.inside.occupancy.places c.self.inside.occupancy.used c.self.inside.listed c.self.invariant
    c.args.self.now.objects (ap (λ (h : Holding). h.objects) c.self.view_is) c.args.slot c.requires.object))

pub returns-clause-edges : goal.returns-clause-edges
returns-clause-edges c =
    subst (λ o. IfSome c.visit.result (λ links. edges_from Strong (o ∷ []) 0 ≡ linked links.0.now ++ linked_in links.1))
    (sym (there c.self.inside.store c.self.inside.occupancy.places c.self.inside.occupancy.used c.self.inside.listed c.self.invariant
    c.args.self.now.objects (ap (λ (h : Holding). h.objects) c.self.view_is) c.args.slot c.requires.object))
    c.visit.ensures.edges
