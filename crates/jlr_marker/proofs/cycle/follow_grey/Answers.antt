use Rattle.std.proofs.Common.{ℕ, ◌<◌, ◌≤◌, ◌≡◌, inl, inr, Some, length, refl, sym, ◌∙◌, subst, arith}
use Rattle.jlr_machine.specs.Objects.{◌∈◌}
use Rattle.jlr_machine.specs.Edges.{edges_from}
use Rattle.jlr_machine.specs.Edges.Chain.{UpToSoft}
use Rattle.jlr_marks.specs.Marking.{place, upcoming}
use Rattle.jlr_barrier.specs.Graphs.{Clock, Graph}
use Rattle.jlr_barrier.specs.Parts.{IsBegun, next_at, ticks_at}
use Rattle.jlr_barrier.specs.Snapshots.{IsObject, RefersTo}
use Rattle.jlr_marker.specs.Following.{Ticks, keeps}
use Rattle.jlr_marker.proofs.Following.{object_within}
use Rattle.jlr_marker.proofs.Passing.{goes_on_here, nothing_passed, one_goes_on, one_each, one_part, one_passed}
use Rattle.jlr_marker.proofs.cycle.follow_grey.Goals as goal

pub follow-requires-clause-objects : goal.follow-requires-clause-objects
follow-requires-clause-objects c =
    subst (λ (g : Graph). (x : ℕ) → x ∈ edges_from UpToSoft g.objects c.in-Some.slot → IsObject g.objects x)
    (sym c.loop-tick.invariant.graph)
    (λ x h. c.requires.objects c.in-Some.slot x h)

pub follow-requires-clause-within : goal.follow-requires-clause-within
follow-requires-clause-within c =
    subst (λ (g : Graph). (x : ℕ) → RefersTo g.objects c.in-Some.slot x → x < length g.objects) (sym c.loop-tick.invariant.graph)
    (λ x h. c.requires.within c.in-Some.slot x h)

pub loop-tick-init : goal.loop-tick-init
loop-tick-init c =
    record {
      graph = refl;
      clock = refl;
      ticks = omega arith;
      blackening = nothing_passed (keeps c.args.policy.now c.args.heap.now.clock) c.args.heap.now.graph.objects c.args.heap.now.marking;
      on = goes_on_here c.args.heap.now.marking;
      condemned = refl;
      each = λ x b. elim b.2 [ inl grey ↦ absurd (b.1 grey) | inr white ↦ absurd (white b.0) ];
      part = λ p e. inl e;
    }

pub loop-tick-preserved : goal.loop-tick-preserved
loop-tick-preserved c =
    let i = c.loop-tick.invariant in
    let kept = keeps c.args.policy.now c.args.heap.now.clock in
    let heap = c.args.heap.now.graph.objects in
    let old = c.args.heap.now.marking in
    let cur = c.loop-tick.heap.marking in
    let new = c.follow.new.heap.marking in
    let slot = c.in-Some.slot in
    let more = next_at heap (place cur slot) slot in
    let f : Ticks kept heap slot cur new =
    subst (λ (k : Clock). Ticks (keeps c.args.policy.now k) heap slot cur new) i.clock
    (subst (λ (g : Graph). Ticks (keeps c.args.policy.now c.loop-tick.heap.clock) g.objects slot cur new) i.graph
    c.follow.ensures.follows) in
    let up : upcoming cur ≡ Some slot = sym c.in-Some.ensures.next in
    let inside : slot < length heap = subst (λ (g : Graph). slot < length g.objects) i.graph
    (object_within c.loop-tick.heap.graph.objects slot c.in-Some.ensures.there.1) in
    let begun : IsBegun heap (place cur slot) slot =
    subst (λ (g : Graph). IsBegun g.objects (place cur slot) slot) i.graph c.in-Some.ensures.begun in
    let top = c.in-Some.ensures.there.0 in
    let few : ticks_at heap slot ≤ 64 = subst (λ (g : Graph). ticks_at g.objects slot ≤ 64) i.graph c.follow.ensures.few in
    record {
      graph = c.follow.ensures.graph ∙ i.graph;
      clock = c.follow.ensures.clock ∙ i.clock;
      ticks = omega (arith, i.ticks, c.follow.ensures.ticked);
      blackening = one_passed kept heap c.loop-tick._tick old cur new slot more i.blackening i.on f refl up top inside begun;
      condemned = c.follow.ensures.condemned ∙ i.condemned;
      each = one_each kept heap c.loop-tick._tick old cur new slot more i.blackening i.on f refl up top inside begun few i.each;
      part = one_part kept heap c.loop-tick._tick old cur new slot more i.blackening i.on f refl up top inside begun;
      on = one_goes_on kept heap c.loop-tick._tick old cur new slot more i.blackening i.on f refl up top inside begun;
    }
