use Rattle.std.proofs.Common.{◌≡◌, ◌+◌, ◌-◌, ◌∷◌, ◌++◌, ℕ, Some, true, length, sym, ◌∙◌, ap, subst, arith}
use Rattle.std.specs.Prelude.{drop, slice_get}
use Rattle.jlr_machine.specs.Choices.{Choosing, collecting, kept_by, pended_by}
use Rattle.jlr_marks.specs.Marking.{Marking}
use Rattle.jlr_process.specs.Settling.{SettlesSlots, cleared_graph, is_losing, newly_pending}
use Rattle.jlr_process.proofs.Twice.{clears_more, more_left, no_place, room_left}
use Rattle.jlr_process.proofs.collection.settle_discovered.Goals as goal

pub settle-requires-clause-pended : goal.settle-requires-clause-pended
settle-requires-clause-pended c = λ losing.
    let i = c.loop-place.invariant in
    let w = i.clears.1 in
    let now : is_losing c.args.heap.now.marking c.loop-place.heap.graph.objects c.in-Some.slot ≡ true =
    subst (λ (m : Marking). is_losing m c.loop-place.heap.graph.objects c.in-Some.slot ≡ true) i.marking losing in
    let lost : pended_by c.loop-place.choice ≡ i.clears.0 = ap pended_by w.chosen in
    let cells : c.loop-place.choice.cells ≡ c.args.choice.now.cells = ap (λ (x : Choosing). x.cells) w.chosen in
    omega (arith, room_left _ _ _ _ _ _ _ w c.in-Some.slot c.requires.bits now, ap length lost, cells, c.requires.room)

pub unreachable-requires : goal.unreachable-requires
unreachable-requires c =
    let next : ℕ = c.loop-place.place - 1 in
    no_place c.args.heap.now.marking.discovered next
    (sym (ap (λ (m : Marking). slice_get m.discovered next) c.loop-place.invariant.marking) ∙ sym c.discovered_at.ensures
    ∙ c.in-None.is)
    (omega (arith, c.loop-place-test.true, c.loop-place.invariant.place))

pub loop-place-preserved : goal.loop-place-preserved
loop-place-preserved c =
    let i = c.loop-place.invariant in
    let m = c.args.heap.now.marking in
    let d = c.in-Some.slot in
    let next : ℕ = c.loop-place.place - 1 in
    let before : next + 1 ≡ c.loop-place.place = omega (arith, c.loop-place-test.true) in
    let here : slice_get m.discovered next ≡ Some d = sym (ap (λ (k : Marking). slice_get k.discovered next) i.marking)
    ∙ sym c.discovered_at.ensures ∙ c.in-Some.is in
    let graph : c.settle.new.heap.graph ≡ cleared_graph m c.loop-place.heap.graph d = c.settle.ensures.graph
    ∙ ap (λ (k : Marking). cleared_graph k c.loop-place.heap.graph d) i.marking in
    let choice = c.settle.ensures.choice ∙ ap (λ (k : Marking). collecting c.loop-place.choice (kept_by c.loop-place.choice)
    (pended_by c.loop-place.choice ++ newly_pending k c.loop-place.heap.graph.objects d)) i.marking in
    let more = clears_more _ _ _ _ _ _ _ i.clears.1 d c.settle.new.heap.graph c.settle.new.choice graph choice in
    record {
      clears = (
        more.0,
        subst (λ l. SettlesSlots m l c.args.heap.now.graph c.args.choice.now more.0 c.settle.new.heap.graph c.settle.new.choice)
            (ap (λ n. d ∷ drop n m.discovered) (sym before) ∙ more_left m.discovered next d here) more.1,
      );
      clock = c.settle.ensures.clock ∙ i.clock;
      marking = c.settle.ensures.marking ∙ i.marking;
      condemned = c.settle.ensures.condemned ∙ i.condemned;
      place = omega (arith, c.loop-place-test.true, i.place);
    }
