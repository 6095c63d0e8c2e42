use Rattle.std.proofs.Common.{sym, ◌∙◌, ap, subst, length}
use Rattle.jlr_machine.specs.declared.machine.Machine.{Machine}
use Rattle.jlr_machine.specs.Choices.{Choosing}
use Rattle.jlr_laws.proofs.ObjectLeft.{length_left}
use Rattle.jlr_barrier.specs.Graphs.{Graph, in_machine}
use Rattle.jlr_process.specs.Flipping.{Flips}
use Rattle.jlr_sweep.specs.Collecting.{Collects, closed}
use Rattle.jlr_process.specs.Flipping.{IsRooted}
use Rattle.jlr_marker.specs.Following.{keeps}
use Rattle.jlr_sweep.proofs.Kept.{clears_told, collects, edge_object, held_object, referent_inside}
use Rattle.jlr_sweep.proofs.collection.full.Goals as goal
use Rattle.jlr_sweep.proofs.collection.full.Goals.{After-sweep_all}

pub mark-requires-clause-roots : goal.mark-requires-clause-roots
mark-requires-clause-roots c = held_object c.requires.fit.0 c.args.heap.now.graph c.requires.fit.1

pub mark-requires-clause-edges : goal.mark-requires-clause-edges
mark-requires-clause-edges c = edge_object c.requires.fit.0 c.args.heap.now.graph c.requires.fit.1

pub mark-requires-clause-within : goal.mark-requires-clause-within
mark-requires-clause-within c = referent_inside c.requires.fit.0 c.args.heap.now.graph c.requires.fit.1

pub flip-requires-clause-fit : goal.flip-requires-clause-fit
flip-requires-clause-fit c =
    (c.requires.fit.0, subst (λ (k : Graph). IsRooted c.requires.fit.0 k) (sym c.mark.ensures.graph) c.requires.fit.1)

flips : (c : After-sweep_all) (m : Machine) → IsRooted m c.args.heap.now.graph
    → Flips (in_machine m c.args.heap.now.graph) c.mark.new.heap.marking c.args.choice.now c.flip.new.choice
    (in_machine m c.flip.new.heap.graph)
flips c m rooted =
    subst (λ (k : Graph). Flips (in_machine m k) c.mark.new.heap.marking c.args.choice.now c.flip.new.choice
    (in_machine m c.flip.new.heap.graph)) c.mark.ensures.graph
    (c.flip.ensures.flips m (subst (λ (k : Graph). IsRooted m k) (sym c.mark.ensures.graph) rooted))

collected : (c : After-sweep_all) (m : Machine) → IsRooted m c.args.heap.now.graph
    → Collects (keeps c.args.policy.now c.args.heap.now.clock) (in_machine m c.args.heap.now.graph) c.args.choice.now c.flip.new.choice
    (closed (in_machine m c.flip.new.heap.graph))
collected c m rooted =
    collects m c.args.heap.now.graph rooted (keeps c.args.policy.now c.args.heap.now.clock) c.mark.new.heap.marking c.mark.ensures.long
    c.mark.ensures.marked c.mark.ensures.objects c.args.choice.now c.flip.new.choice (in_machine m c.flip.new.heap.graph)
    (flips c m rooted)

pub returns-clause-collects : goal.returns-clause-collects
returns-clause-collects c = λ m rooted.
    subst (λ (g : Graph). Collects (keeps c.args.policy.now c.args.heap.now.clock) (in_machine m c.args.heap.now.graph) c.args.choice.now
    c.flip.new.choice (closed (in_machine m g))) (sym c.sweep_all.ensures.graph) (collected c m rooted)

pub returns-clause-clears : goal.returns-clause-clears
returns-clause-clears c =
    λ all m rooted.
    clears_told (in_machine m c.args.heap.now.graph) c.args.policy.now c.args.heap.now.clock c.args.choice.now c.flip.new.choice
    (closed (in_machine m c.flip.new.heap.graph)) all rooted.fit (collected c m rooted)

pub returns-clause-room : goal.returns-clause-room
returns-clause-room c = ap (λ (x : Choosing). x.cells) (flips c c.requires.fit.0 c.requires.fit.1).chosen

pub returns-clause-cells : goal.returns-clause-cells
returns-clause-cells c =
    let f = flips c c.requires.fit.0 c.requires.fit.1 in
    ap (λ (g : Graph). length g.objects) c.sweep_all.ensures.graph ∙ ap (λ (x : Machine). length x.objects) f.left
    ∙ length_left _ f.pending 0 c.args.heap.now.graph.objects
