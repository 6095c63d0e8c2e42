use Rattle.std.proofs.Common.{◌≡◌, ◌⊎◌, ◌<◌, ℕ, Option, Some, None, sym, ◌∙◌, arith, subst, length, take}
use Rattle.std.proofs.lemmas.List.{take_all}
use Rattle.std.proofs.lemmas.Grind.{common_steps}
use Rattle.jlr_machine.specs.Objects.{◌∈◌}
use Rattle.jlr_cells.specs.Links.{linked}
use Rattle.jlr_marks.specs.Marking.{Shaded}
use Rattle.jlr_marks.proofs.Shading.{shaded_same, shaded_then}
use Rattle.jlr_barrier.proofs.Walking.{walk_gives, walk_from, item_in}
use Rattle.jlr_barrier.proofs.shade.shade_links.Goals as goal

abbrev itself : Option ℕ → Option ℕ
itself o = o

pub shade_target-requires : goal.shade_target-requires
shade_target-requires c =
    let links = c.args.links.now in
    let i = c.loop-place.place in
    let within : i < length links = omega arith in
    λ x e.
    let inside = c.requires x (item_in itself links i None x within (sym c.get.ensures ∙ e)) in
    omega (arith, inside, c.loop-place.invariant.long)

pub loop-place-preserved : goal.loop-place-preserved
loop-place-preserved c =
    let links = c.args.links.now in
    let i = c.loop-place.place in
    let within : i < length links = omega arith in
    shaded_same _ _
    (λ x h. walk_from itself links i None within x (subst (λ o. (x ∈ linked (take i links)) ⊎ (o ≡ Some x)) c.get.ensures h))
    (λ x h. subst (λ o. (x ∈ linked (take i links)) ⊎ (o ≡ Some x)) (sym c.get.ensures) (walk_gives itself links i None within x h))
    c.args.marks.now c.shade_target.new.marks
    (shaded_then _ _ c.args.marks.now c.loop-place.marks c.shade_target.new.marks c.loop-place.invariant c.shade_target.ensures)

pub returns : goal.returns
returns c =
    let links = c.args.links.now in
    let all : take c.loop-place.place links ≡ links = take_all c.loop-place.place links (omega arith) in
    subst (λ l. Shaded (λ x. x ∈ linked l) c.args.marks.now c.loop-place.marks) all c.loop-place.invariant

pub loop-place-init : goal.loop-place-init
loop-place-init c = grind (arith, common_steps)
