use Rattle.std.proofs.Common.{◌≡◌, ◌⊎◌, sym, ◌∙◌, ap, arith, Some, subst}
use Rattle.jlr_machine.specs.Objects.{◌∈◌}
use Rattle.jlr_roots.specs.Walk.{walked}
use Rattle.jlr_marks.specs.Marking.{Shaded}
use Rattle.jlr_marks.proofs.Shading.{shaded_none, shaded_same, shaded_then}
use Rattle.jlr_barrier.proofs.Places.{no_place, place_gives, place_from, place_in}
use Rattle.jlr_barrier.proofs.shade.shade_roots.Goals as goal

pub loop-place-init : goal.loop-place-init
loop-place-init c = shaded_none (λ x. x ∈ walked c.args.roots.now 0) (λ x h. no_place c.args.roots.now x h) c.args.marks.now

pub shade_target-requires : goal.shade_target-requires
shade_target-requires c =
    λ x e.
    let m = c.args.roots.now in
    let held = subst (λ l. x ∈ l) c.places-place-end.ensures.walk
    (place_in m c.places-place-end.result c.loop-place.place x c.loop-place-test.true (sym c.root.ensures ∙ e)) in
    omega (arith, c.requires x held, c.loop-place.invariant.long)

pub loop-place-preserved : goal.loop-place-preserved
loop-place-preserved c =
    let m = c.args.roots.now in
    let p = c.loop-place.place in
    shaded_same _ _
    (λ x h. place_from m p x (subst (λ o. (x ∈ walked m p) ⊎ (o ≡ Some x)) c.root.ensures h))
    (λ x h. subst (λ o. (x ∈ walked m p) ⊎ (o ≡ Some x)) (sym c.root.ensures) (place_gives m p x h))
    c.args.marks.now c.shade_target.new.marks
    (shaded_then _ _ c.args.marks.now c.loop-place.marks c.shade_target.new.marks c.loop-place.invariant c.shade_target.ensures)

pub returns : goal.returns
returns c =
    let end : c.loop-place.place ≡ c.places-place-end.result = omega (arith, c.loop-place-test.false, c.loop-place.auto.place-end) in
    subst (λ l. Shaded (λ x. x ∈ l) c.args.marks.now c.loop-place.marks)
    (ap (walked c.args.roots.now) end ∙ c.places-place-end.ensures.walk) c.loop-place.invariant
