use Rattle.jlr_cells.specs.Holding.{Holding}
use Rattle.std.proofs.Common.{◌∙◌, ◌∷◌, [], ap, sym}
use Rattle.std.specs.Prelude.{is_some, option_and_then}
use Rattle.jlr_machine.specs.Objects.{some_and}
use Rattle.jlr_machine.specs.Edges.{edges_from}
use Rattle.jlr_machine.specs.Edges.Chain.{Strong}
use Rattle.jlr_machine.specs.Refusals.{is_record}
use Rattle.jlr_cells.specs.Visits.{edges_told, elements_of}
use Rattle.jlr_cells.specs.Contents.{members_in}
use Rattle.jlr_cells.proofs.Shown.{holds_below, there}
use Rattle.jlr_cells.proofs.objects.objects.Objects.visit_other.Goals as goal

pub visit_other-requires-clause-object : goal.visit_other-requires-clause-object
visit_other-requires-clause-object c = holds_below c.self.inside.store c.self.inside.occupancy.places c.self.inside.occupancy.used
    c.self.inside.listed c.self.invariant c.args.self.now.objects (ap (λ (h : Holding). h.objects) c.self.view_is) is_some c.args.slot
    (λ o h. h) c.requires.object

pub visit_other-requires-clause-other : goal.visit_other-requires-clause-other
visit_other-requires-clause-other c = sym (ap (some_and is_record)
    (there c.self.inside.store c.self.inside.occupancy.places c.self.inside.occupancy.used c.self.inside.listed c.self.invariant
    c.args.self.now.objects (ap (λ (h : Holding). h.objects) c.self.view_is) c.args.slot c.requires.object)) ∙ c.requires.other

pub returns-clause-edges : goal.returns-clause-edges
returns-clause-edges c =
    let same = there c.self.inside.store c.self.inside.occupancy.places c.self.inside.occupancy.used c.self.inside.listed c.self.invariant
    c.args.self.now.objects (ap (λ (h : Holding). h.objects) c.self.view_is) c.args.slot c.requires.object in
    ap (λ o. edges_from Strong (o ∷ []) 0) same
    ∙ c.visit_other.ensures.edges
    ∙ ap (λ o. edges_told c.visit_other.result (members_in o)) (sym same)

pub returns-clause-array : goal.returns-clause-array
returns-clause-array c = c.visit_other.ensures.array
    ∙ ap (option_and_then elements_of) (sym (there c.self.inside.store c.self.inside.occupancy.places c.self.inside.occupancy.used
    c.self.inside.listed c.self.invariant c.args.self.now.objects (ap (λ (h : Holding). h.objects) c.self.view_is) c.args.slot
    c.requires.object))
