use Rattle.std.proofs.Common.{◌≡◌, ◌<◌, ◌⊎◌, refl, sym, ◌∙◌, arith, Some, [], take, subst, length, slice_index_or}
use Rattle.std.proofs.lemmas.List.{length-map}
use Rattle.std.proofs.lemmas.Option.{slice_get-get_or}
use Rattle.jlr_machine.specs.Objects.{◌∈◌}
use Rattle.jlr_machine.specs.declared.machine.Binding.{Binding}
use Rattle.jlr_roots.specs.Naming.{named}
use Rattle.jlr_laws.proofs.Sets.{nothing}
use Rattle.jlr_marks.proofs.Shading.{shaded_none, shaded_same, shaded_then}
use Rattle.jlr_links.proofs.Places.{member_in_list}
use Rattle.jlr_barrier.proofs.Walking.{took_gives, took_from}
use Rattle.jlr_barrier.proofs.shade.shade_names.Goals as goal

pub loop-place-init : goal.loop-place-init
loop-place-init c = shaded_none (λ x. x ∈ []) (λ x h. nothing x h) c.args.marks.now

pub shade_target-requires : goal.shade_target-requires
shade_target-requires c =
    λ x e.
    let slots = named c.args.names.now in
    let i = c.loop-place.place in
    let inside = c.requires x (member_in_list slots i x x (sym c.slot_at.ensures ∙ e) refl) in
    omega (arith, inside, c.loop-place.invariant.long)

pub loop-place-preserved : goal.loop-place-preserved
loop-place-preserved c =
    let slots = named c.args.names.now in
    let i = c.loop-place.place in
    let within : i < length slots =
    omega (arith, c.loop-place-test.true, c.len-place-end.ensures, length-map c.args.names.now (λ (b : Binding). b.slot)) in
    let here : c.slot_at.result ≡ Some (slice_index_or slots i 0) = c.slot_at.ensures ∙ slice_get-get_or slots i 0 within in
    shaded_same _ _
    (λ x h. took_from slots i 0 within x (subst (λ o. (x ∈ take i slots) ⊎ (o ≡ Some x)) here h))
    (λ x h. subst (λ o. (x ∈ take i slots) ⊎ (o ≡ Some x)) (sym here) (took_gives slots i 0 within x h))
    c.args.marks.now c.shade_target.new.marks
    (shaded_then _ _ c.args.marks.now c.loop-place.marks c.shade_target.new.marks c.loop-place.invariant c.shade_target.ensures)
