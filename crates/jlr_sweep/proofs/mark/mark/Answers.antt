use Rattle.std.proofs.Common.{◌≡◌, false, ◌+◌, ◌<◌, ◌≤◌, ℕ, sym, ◌∙◌, ap, arith, length, Some, subst}
use Rattle.std.proofs.lemmas.List.{length-replicate}
use Rattle.jlr_machine.specs.Objects.{◌∈◌, Heap}
use Rattle.jlr_machine.specs.Edges.{edges_from}
use Rattle.jlr_machine.specs.Edges.Chain.{UpToSoft}
use Rattle.jlr_barrier.specs.Graphs.{Clock, Graph, held}
use Rattle.jlr_barrier.specs.Parts.{IsBegun, ticks_at}
use Rattle.jlr_barrier.specs.Snapshots.{IsObject, RefersTo}
use Rattle.jlr_marks.specs.Marking.{place, upcoming}
use Rattle.jlr_marker.specs.Following.{Ticks, keeps}
use Rattle.jlr_marker.specs.Spending.{ticks_spent, ticks_for}
use Rattle.jlr_marker.proofs.Following.{followed_objects, followed_is_soft, none_upcoming, object_within}
use Rattle.jlr_marker.proofs.Whole.{marking_begins, marking_ends, marking_goes_on, marking_sound, marking_spends, marking_within}
use Rattle.jlr_marker.proofs.Whole.{none_spent, slot_is_grey, spent_below, spent_within}
use Rattle.jlr_sweep.proofs.mark.mark.Goals as goal
use Rattle.jlr_sweep.proofs.mark.mark.Goals.{After-follow}

pub loop-slot-init : goal.loop-slot-init
loop-slot-init c =
    let heap = c.args.heap.now.graph.objects in
    let base = held c.args.heap.now.graph in
    let s = c.begin.ensures.shaded in
    record {
      marking = marking_begins (keeps c.args.policy.now c.args.heap.now.clock) heap base (length heap) c.begin.new.heap.marking s;
      graph = c.begin.ensures.graph;
      clock = c.begin.ensures.clock;
      long = s.long ∙ length-replicate (length heap) false;
      ticks = omega (arith, none_spent heap base (length heap) c.begin.new.heap.marking s);
    }

pub follow-requires-clause-next : goal.follow-requires-clause-next
follow-requires-clause-next c = sym c.in-Some.ensures.next

pub follow-requires-clause-object : goal.follow-requires-clause-object
follow-requires-clause-object c = c.in-Some.ensures.there.1

pub follow-requires-clause-ticks : goal.follow-requires-clause-ticks
follow-requires-clause-ticks c =
    let i = c.loop-slot.invariant in
    let heap = c.args.heap.now.graph.objects in
    let most = marking_within (keeps c.args.policy.now c.args.heap.now.clock) heap (held c.args.heap.now.graph) (length heap)
    c.loop-slot.heap.marking i.marking in
    omega (arith, i.ticks, most, c.requires.few, c.requires.ticks)

pub follow-requires-clause-objects : goal.follow-requires-clause-objects
follow-requires-clause-objects c =
    subst (λ (g : Graph). (x : ℕ) → x ∈ edges_from UpToSoft g.objects c.in-Some.slot → IsObject g.objects x)
    (sym c.loop-slot.invariant.graph)
    (λ x h. c.requires.edges c.in-Some.slot x h)

pub follow-requires-clause-within : goal.follow-requires-clause-within
follow-requires-clause-within c =
    subst (λ (g : Graph). (x : ℕ) → RefersTo g.objects c.in-Some.slot x → x < length g.objects) (sym c.loop-slot.invariant.graph)
    (λ x h. c.requires.within c.in-Some.slot x h)

-- ---- A tick

ticked : (c : After-follow) → Ticks (keeps c.args.policy.now c.args.heap.now.clock) c.args.heap.now.graph.objects c.in-Some.slot
    c.loop-slot.heap.marking c.follow.new.heap.marking
ticked c =
    let i = c.loop-slot.invariant in
    let heap = c.args.heap.now.graph.objects in
    subst (λ (k : Clock). Ticks (keeps c.args.policy.now k) heap c.in-Some.slot c.loop-slot.heap.marking c.follow.new.heap.marking) i.clock
    (subst (λ (g : Graph). Ticks (keeps c.args.policy.now c.loop-slot.heap.clock) g.objects c.in-Some.slot c.loop-slot.heap.marking
    c.follow.new.heap.marking) i.graph c.follow.ensures.follows)

inside : (c : After-follow) → c.in-Some.slot < length c.args.heap.now.graph.objects
inside c = subst (λ (g : Graph). c.in-Some.slot < length g.objects) c.loop-slot.invariant.graph
    (object_within c.loop-slot.heap.graph.objects c.in-Some.slot c.in-Some.ensures.there.1)

begun : (c : After-follow) → IsBegun c.args.heap.now.graph.objects (place c.loop-slot.heap.marking c.in-Some.slot) c.in-Some.slot
begun c = subst (λ (g : Graph). IsBegun g.objects (place c.loop-slot.heap.marking c.in-Some.slot) c.in-Some.slot)
    c.loop-slot.invariant.graph c.in-Some.ensures.begun

few : (c : After-follow) → ticks_at c.args.heap.now.graph.objects c.in-Some.slot ≤ 64
few c = subst (λ (g : Graph). ticks_at g.objects c.in-Some.slot ≤ 64) c.loop-slot.invariant.graph c.follow.ensures.few

up : (c : After-follow) → upcoming c.loop-slot.heap.marking ≡ Some c.in-Some.slot
up c = sym c.in-Some.ensures.next

one_more : (c : After-follow) → ticks_spent c.args.heap.now.graph.objects c.follow.new.heap.marking
    ≡ ticks_spent c.args.heap.now.graph.objects
    c.loop-slot.heap.marking + 1
one_more c =
    let heap = c.args.heap.now.graph.objects in
    marking_spends (keeps c.args.policy.now c.args.heap.now.clock) heap (held c.args.heap.now.graph) (length heap) c.loop-slot.heap.marking
    c.follow.new.heap.marking c.in-Some.slot c.loop-slot.invariant.marking (ticked c)
    (up c) c.in-Some.ensures.there.0 (inside c) (begun c)

pub loop-slot-smaller : goal.loop-slot-smaller
loop-slot-smaller c =
    let heap = c.args.heap.now.graph.objects in
    let grey =
    slot_is_grey (keeps c.args.policy.now c.args.heap.now.clock) heap (held c.args.heap.now.graph) (length heap) c.loop-slot.heap.marking
    c.follow.new.heap.marking c.in-Some.slot c.loop-slot.invariant.marking (ticked c)
    (up c) c.in-Some.ensures.there.0 (inside c) (begun c) in
    let left : ticks_spent heap c.loop-slot.heap.marking < ticks_for heap =
    spent_below heap c.loop-slot.heap.marking c.in-Some.slot (up c) c.in-Some.ensures.there.0 grey (inside c) (begun c) in
    omega (arith, one_more c, left)

pub loop-slot-preserved : goal.loop-slot-preserved
loop-slot-preserved c =
    let i = c.loop-slot.invariant in
    let heap : Heap = c.args.heap.now.graph.objects in
    let f = ticked c in
    record {
      marking =
          marking_goes_on (keeps c.args.policy.now c.args.heap.now.clock) heap (held c.args.heap.now.graph) (length heap)
          c.loop-slot.heap.marking c.follow.new.heap.marking c.in-Some.slot i.marking f
          (up c) c.in-Some.ensures.there.0 (inside c) (begun c) (few c);
      graph = c.follow.ensures.graph ∙ i.graph;
      clock = c.follow.ensures.clock ∙ i.clock;
      long = f.shaded.long ∙ ap length f.same_bits ∙ i.long;
      ticks = omega (arith, i.ticks, one_more c, c.follow.ensures.ticked);
    }

-- ---- The end

pub returns-clause-marked : goal.returns-clause-marked
returns-clause-marked c =
    let heap = c.args.heap.now.graph.objects in
    λ x.
    marking_ends (keeps c.args.policy.now c.args.heap.now.clock) heap (held c.args.heap.now.graph) (length heap) c.loop-slot.heap.marking
    c.loop-slot.invariant.marking
    (none_upcoming c.loop-slot.heap.marking (sym c.in_default.ensures.next)) x

pub returns-clause-objects : goal.returns-clause-objects
returns-clause-objects c =
    let kept = keeps c.args.policy.now c.args.heap.now.clock in
    let heap = c.args.heap.now.graph.objects in
    let base = held c.args.heap.now.graph in
    λ x h.
    followed_objects kept heap base c.requires.roots (λ x y h. c.requires.edges x y (followed_is_soft kept heap x y h)) x
    (marking_sound kept heap base (length heap) c.loop-slot.heap.marking c.loop-slot.invariant.marking x h)

pub returns-clause-no_grey : goal.returns-clause-no_grey
returns-clause-no_grey c = none_upcoming c.loop-slot.heap.marking (sym c.in_default.ensures.next)

pub returns-clause-ticks : goal.returns-clause-ticks
returns-clause-ticks c =
    let most = spent_within c.args.heap.now.graph.objects c.loop-slot.heap.marking
    (none_upcoming c.loop-slot.heap.marking (sym c.in_default.ensures.next)) in
    omega (arith, c.loop-slot.invariant.ticks, most)
