use Rattle.std.proofs.Common.{◌≡◌, ◌++◌, sym, ◌∙◌, ap, arith, subst}
use Rattle.std.specs.Prelude.{option_to_list}
use Rattle.jlr_machine.specs.Objects.{◌∈◌, at}
use Rattle.jlr_machine.specs.Edges.{edges_from}
use Rattle.jlr_machine.specs.Edges.Chain.{Strong}
use Rattle.jlr_cells.specs.Contents.{members_in}
use Rattle.jlr_cells.specs.Links.{linked}
use Rattle.jlr_cells.specs.Visits.{edges_told, elements_lent}
use Rattle.jlr_laws.proofs.Clearing.{in_left, in_right, option_in}
use Rattle.jlr_marks.specs.Marking.{Shaded}
use Rattle.jlr_marks.proofs.Shading.{shaded_in_both, shaded_target, shaded_then}
use Rattle.jlr_barrier.proofs.Parts.{array_next, array_part, array_ticks, few_ticks, no_next, whole_part}
use Rattle.jlr_barrier.proofs.shade.follow_other.Goals as goal

pub shade_target-requires : goal.shade_target-requires
shade_target-requires c =
    let members = members_in (at c.args.cells.now.objects c.args.slot) in
    let edges : edges_from Strong c.args.cells.now.objects c.args.slot ≡ option_to_list c.in-Other.next ++ members =
    c.visit_other.ensures.edges ∙ ap (λ v. edges_told v members) c.in-Other.is in
    λ x e. c.requires.within x (subst (λ l. x ∈ l) (sym edges)
    (in_left x (option_to_list c.in-Other.next) members (option_in x c.in-Other.next e)))

pub shade_members-requires : goal.shade_members-requires
shade_members-requires c =
    let members = members_in (at c.args.cells.now.objects c.args.slot) in
    let edges : edges_from Strong c.args.cells.now.objects c.args.slot ≡ option_to_list c.in-Other.next ++ members =
    c.visit_other.ensures.edges ∙ ap (λ v. edges_told v members) c.in-Other.is in
    λ x h.
    let inside = c.requires.within x (subst (λ l. x ∈ l) (sym edges) (in_right x (option_to_list c.in-Other.next) members h)) in
    omega (arith, inside, c.shade_target.ensures.long)

pub returns-in-Other-clause-shaded : goal.returns-in-Other-clause-shaded
returns-in-Other-clause-shaded c =
    let heap = c.args.cells.now.objects in
    let members = members_in (at heap c.args.slot) in
    let edges : edges_from Strong heap c.args.slot ≡ option_to_list c.in-Other.next ++ members = c.visit_other.ensures.edges
    ∙ ap (λ v. edges_told v members) c.in-Other.is in
    let all = whole_part heap c.args.slot c.args.from (ap elements_lent (sym c.in-Other.is) ∙ c.visit_other.ensures.array) in
    subst (λ l. Shaded (λ x. x ∈ l) c.args.marks.now c.shade_members.new.marks) (sym (all ∙ edges))
    (shaded_in_both (option_to_list c.in-Other.next) members _ _
    (shaded_then _ _ _ _ _ (shaded_target _ _ _ c.shade_target.ensures) c.shade_members.ensures))

pub returns-in-Other-clause-next : goal.returns-in-Other-clause-next
returns-in-Other-clause-next c =
    no_next c.args.cells.now.objects c.args.slot c.args.from (ap elements_lent (sym c.in-Other.is) ∙ c.visit_other.ensures.array)

pub shade_part-requires : goal.shade_part-requires
shade_part-requires c =
    let members = members_in (at c.args.cells.now.objects c.args.slot) in
    let edges : edges_from Strong c.args.cells.now.objects c.args.slot ≡ linked c.in-Array.elements.now = c.visit_other.ensures.edges
    ∙ ap (λ v. edges_told v members) c.in-Array.is in
    λ x h. c.requires.within x (subst (λ l. x ∈ l) (sym edges) h)

pub returns-in-Array-clause-shaded : goal.returns-in-Array-clause-shaded
returns-in-Array-clause-shaded c =
    let part = array_part c.args.cells.now.objects c.args.slot c.args.from c.in-Array.elements.now
    (ap elements_lent (sym c.in-Array.is) ∙ c.visit_other.ensures.array) in
    subst (λ l. Shaded (λ x. x ∈ l) c.args.marks.now c.shade_part.new.marks) (sym part) c.shade_part.ensures.shaded

pub returns-in-Array-clause-next : goal.returns-in-Array-clause-next
returns-in-Array-clause-next c =
    c.shade_part.ensures.next ∙ array_next c.args.cells.now.objects c.args.slot c.args.from c.in-Array.elements.now
    (ap elements_lent (sym c.in-Array.is) ∙ c.visit_other.ensures.array)

pub returns-in-Array-clause-few : goal.returns-in-Array-clause-few
returns-in-Array-clause-few c =
    array_ticks c.args.cells.now.objects c.args.slot c.args.from c.in-Array.elements.now
    (ap elements_lent (sym c.in-Array.is) ∙ c.visit_other.ensures.array) c.shade_part.ensures.few

pub returns-in-Other-clause-few : goal.returns-in-Other-clause-few
returns-in-Other-clause-few c =
    few_ticks c.args.cells.now.objects c.args.slot (ap elements_lent (sym c.in-Other.is) ∙ c.visit_other.ensures.array)
