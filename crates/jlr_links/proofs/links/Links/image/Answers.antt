use Rattle.std.proofs.Common.{◌≡◌, ◌∙◌, ◌++◌, ◌∷◌, [], Some, ap, arith, refl, slice_get, sym}
use Rattle.jlr_links.specs.Lists.{list_at}
use Rattle.jlr_links.proofs.Places.{comes_next, member_in_list, one_there, took_one}
use Rattle.jlr_links.proofs.links.Links.image.Goals as goal

pub next-next-requires-clause-member : goal.next-next-requires-clause-member
next-next-requires-clause-member c =
    member_in_list (list_at c.args.self.now.lists c.args.list) c.loop-place._place c.in-Some.slot c.in-Some.slot
    (sym c.loop-place.invariant.next ∙ c.in-Some.is) refl

pub unreachable-requires : goal.unreachable-requires
unreachable-requires c = one_there (list_at c.args.self.now.lists c.args.list) c.loop-place._place
    (sym c.loop-place.invariant.next ∙ c.in-None.is) (omega (arith, c.loop-place-test.true, c.count-count.ensures))

pub loop-place-preserved : goal.loop-place-preserved
loop-place-preserved c =
    let items = list_at c.args.self.now.lists c.args.list in
    let i = c.loop-place._place in
    let here : slice_get items i ≡ Some c.in-Some.slot = sym c.loop-place.invariant.next ∙ c.in-Some.is in
    record {
      so_far = c.push_reserved.ensures.items ∙ ap (λ l. l ++ c.in-Some.slot ∷ []) c.loop-place.invariant.so_far
          ∙ sym (took_one items i c.in-Some.slot here);
      next = comes_next items i c.in-Some.slot c.next-next.result here c.next-next.ensures;
      room = omega (arith, c.loop-place.invariant.room, c.push_reserved.ensures.capacity);
    }
