use Rattle.std.proofs.Common.{◌≡◌, ◌++◌, sym, ◌∙◌, ap, arith, subst}
use Rattle.std.specs.Prelude.{IfSome, is_some}
use Rattle.jlr_machine.specs.Objects.{◌∈◌}
use Rattle.jlr_machine.specs.Edges.{edges_from}
use Rattle.jlr_machine.specs.Edges.Chain.{Strong}
use Rattle.jlr_cells.specs.Links.{linked, linked_in}
use Rattle.jlr_laws.proofs.Clearing.{in_left, in_right}
use Rattle.jlr_marks.specs.Marking.{Shaded}
use Rattle.jlr_marks.proofs.Shading.{shaded_in_both, shaded_then}
use Rattle.jlr_barrier.proofs.Parts.{few_ticks, no_elements, no_next, whole_part}
use Rattle.jlr_barrier.proofs.shade.follow.Goals as goal

pub shade_links-requires : goal.shade_links-requires
shade_links-requires c =
    let heap = c.args.cells.now.objects in
    let s = c.args.slot in
    let near = linked c.in-Some.near.now in
    let far = linked_in c.in-Some.far in
    let edges : edges_from Strong heap s ≡ near ++ far =
    subst (λ o. IfSome o (λ links. edges_from Strong heap s ≡ linked links.0.now ++ linked_in links.1)) c.in-Some.is
    c.visit.ensures.edges in
    λ x h. c.requires.within x (subst (λ l. x ∈ l) (sym edges) (in_left x near far h))

pub shade_far-requires : goal.shade_far-requires
shade_far-requires c =
    let heap = c.args.cells.now.objects in
    let s = c.args.slot in
    let near = linked c.in-Some.near.now in
    let far = linked_in c.in-Some.far in
    let edges : edges_from Strong heap s ≡ near ++ far =
    subst (λ o. IfSome o (λ links. edges_from Strong heap s ≡ linked links.0.now ++ linked_in links.1)) c.in-Some.is
    c.visit.ensures.edges in
    λ x h.
    let inside = c.requires.within x (subst (λ l. x ∈ l) (sym edges) (in_right x near far h)) in
    omega (arith, inside, c.shade_links.ensures.long)

pub returns-in-Some-clause-shaded : goal.returns-in-Some-clause-shaded
returns-in-Some-clause-shaded c =
    let heap = c.args.cells.now.objects in
    let s = c.args.slot in
    let near = linked c.in-Some.near.now in
    let far = linked_in c.in-Some.far in
    let edges : edges_from Strong heap s ≡ near ++ far =
    subst (λ o. IfSome o (λ links. edges_from Strong heap s ≡ linked links.0.now ++ linked_in links.1)) c.in-Some.is
    c.visit.ensures.edges in
    let all = whole_part heap s c.args.from (no_elements c.args.cells.now.objects c.args.slot c.visit.ensures.plain
    (ap is_some c.in-Some.is)) in
    subst (λ l. Shaded (λ x. x ∈ l) c.args.marks.now c.shade_far.new.marks) (sym (all ∙ edges))
    (shaded_in_both near far _ _ (shaded_then _ _ _ _ _ c.shade_links.ensures c.shade_far.ensures))

pub returns-in-Some-clause-next : goal.returns-in-Some-clause-next
returns-in-Some-clause-next c = no_next c.args.cells.now.objects c.args.slot c.args.from
    (no_elements c.args.cells.now.objects c.args.slot c.visit.ensures.plain (ap is_some c.in-Some.is))

pub returns-in-Some-clause-few : goal.returns-in-Some-clause-few
returns-in-Some-clause-few c = few_ticks c.args.cells.now.objects c.args.slot
    (no_elements c.args.cells.now.objects c.args.slot c.visit.ensures.plain (ap is_some c.in-Some.is))
