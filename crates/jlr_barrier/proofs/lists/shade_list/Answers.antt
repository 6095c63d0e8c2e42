use Rattle.std.proofs.Common.{◌≡◌, ◌∙◌, ◌⊎◌, Some, arith, refl, slice_get, subst, sym, take}
use Rattle.std.proofs.lemmas.Option.{slice_get_within, get_or_from_slice_get}
use Rattle.std.proofs.lemmas.Grind.{common_steps}
use Rattle.jlr_machine.specs.Objects.{◌∈◌}
use Rattle.jlr_links.specs.Lists.{list_at}
use Rattle.jlr_marks.proofs.Shading.{shaded_same, shaded_then}
use Rattle.jlr_links.proofs.Places.{comes_next, member_in_list, one_there}
use Rattle.jlr_barrier.proofs.Walking.{took_gives, took_from}
use Rattle.jlr_barrier.proofs.lists.shade_list.Goals as goal

pub shade_target-requires : goal.shade_target-requires
shade_target-requires c =
    let items = list_at c.args.lists.now.lists c.args.list in
    λ x e. (let inside = c.requires.within x (member_in_list items c.loop-place._place c.in-Some.slot x
    (sym c.loop-place.invariant.next ∙ c.in-Some.is) e) in omega (arith, inside, c.loop-place.invariant.shaded.long))

pub next-next-requires-clause-member : goal.next-next-requires-clause-member
next-next-requires-clause-member c =
    member_in_list (list_at c.args.lists.now.lists c.args.list) c.loop-place._place c.in-Some.slot c.in-Some.slot
    (sym c.loop-place.invariant.next ∙ c.in-Some.is) refl

pub unreachable-requires : goal.unreachable-requires
unreachable-requires c = one_there (list_at c.args.lists.now.lists c.args.list) c.loop-place._place
    (sym c.loop-place.invariant.next ∙ c.in-None.is) (omega (arith, c.loop-place-test.true, c.count-place-end.ensures))

pub loop-place-preserved : goal.loop-place-preserved
loop-place-preserved c =
    let items = list_at c.args.lists.now.lists c.args.list in
    let i = c.loop-place._place in
    let d = c.in-Some.slot in
    let here : slice_get items i ≡ Some d = sym c.loop-place.invariant.next ∙ c.in-Some.is in
    let within = slice_get_within items i d here in
    let read = get_or_from_slice_get items i d d here in
    record {
      shaded = shaded_same _ _
          (λ x h. took_from items i d within x (subst (λ v. (x ∈ take i items) ⊎ (Some v ≡ Some x)) (sym read) h))
          (λ x h. subst (λ v. (x ∈ take i items) ⊎ (Some v ≡ Some x)) read (took_gives items i d within x h))
          c.args.marks.now c.shade_target.new.marks
          (shaded_then _ _ c.args.marks.now c.loop-place.marks c.shade_target.new.marks c.loop-place.invariant.shaded
          c.shade_target.ensures);
      next = comes_next items i d c.next-next.result here c.next-next.ensures;
    }

pub returns : goal.returns
returns c = grind (arith, common_steps)
