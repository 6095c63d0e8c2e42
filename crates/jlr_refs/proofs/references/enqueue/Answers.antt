use Rattle.std.proofs.Common.{◌≡◌, ◌++◌, ◌∷◌, [], Option, Some, sym, ◌∙◌, ap, subst, true, is_some, option_and_then}
use Rattle.std.specs.Prelude.{option_map}
use Rattle.jlr_machine.specs.declared.object.Object.{Object}
use Rattle.jlr_machine.specs.Objects.{at, queue_ahead, some_and, with_members, with_reference}
use Rattle.jlr_machine.specs.declared.object.RefState.TheVariants.{Queued}
use Rattle.jlr_machine.specs.Refusals.{is_reference}
use Rattle.jlr_cells.specs.Contents.{in_state, next_in, unregistered}
use Rattle.jlr_marks.specs.Marking.{Marking, Shaded}
use Rattle.jlr_marks.proofs.Shading.{shaded_none}
use Rattle.jlr_laws.proofs.Frames.{no_some}
use Rattle.jlr_barrier.specs.Graphs.{Graph}
use Rattle.jlr_refs.proofs.Changing.{apart, change_here, change_other, still_reference, still_there}
use Rattle.jlr_refs.proofs.Enqueuing.{ahead_in, ahead_is_queue, enqueued_in_queue, in_no_queue, none_ahead_of_unregistered, queue_is_object}
use Rattle.jlr_refs.proofs.Enqueuing.{reference_is_object}
use Rattle.jlr_refs.proofs.references.enqueue.Goals as goal

pub link-requires-clause-queue : goal.link-requires-clause-queue
link-requires-clause-queue c = ahead_is_queue c.args.heap.now.graph c.args.reference c.in-Some.queue c.requires.fit c.requires.reference
    (ap (option_and_then queue_ahead) (sym c.reference.ensures) ∙ sym c.queue_ahead.ensures ∙ c.in-Some.is)

pub link-requires-clause-object : goal.link-requires-clause-object
link-requires-clause-object c = reference_is_object (at c.args.heap.now.graph.objects c.args.reference) c.requires.reference

pub link-requires-clause-apart : goal.link-requires-clause-apart
link-requires-clause-apart c = in_no_queue c.args.heap.now.graph c.args.reference c.in-Some.queue c.requires.fit
    (ap (option_and_then queue_ahead) (sym c.reference.ensures) ∙ sym c.queue_ahead.ensures ∙ c.in-Some.is)

pub clear-requires-2 : goal.clear-requires-2
clear-requires-2 c =
    let old = c.args.heap.now.graph.objects in
    let s = c.args.reference in
    let ahead = ap (option_and_then queue_ahead) (sym c.reference.ensures) ∙ sym c.queue_ahead.ensures ∙ c.in-Some.is in
    let is_q = ahead_is_queue c.args.heap.now.graph s c.in-Some.queue c.requires.fit c.requires.reference ahead in
    let linked : some_and is_reference (at c.link.new.self.graph.objects s) ≡ true =
    ap (λ (g : Graph). some_and is_reference (at g.objects s)) c.link.ensures.graph
    ∙ ap (some_and is_reference) (change_other old c.in-Some.queue s (with_members (λ members. members ++ s ∷ []))
    (apart old s c.in-Some.queue c.requires.reference is_q))
    ∙ c.requires.reference in
    let cut : some_and is_reference (at c.cut_queue_edge.new.self.graph.objects s) ≡ true =
    ap (λ (g : Graph). some_and is_reference (at g.objects s)) c.cut_queue_edge.ensures.graph
    ∙ still_reference c.link.new.self.graph.objects s unregistered linked in
    ap (λ (g : Graph). some_and is_reference (at g.objects s)) c.set_state.ensures.graph
    ∙ still_reference c.cut_queue_edge.new.self.graph.objects s (in_state Queued) cut

pub returns-clause-enqueued : goal.returns-clause-enqueued
returns-clause-enqueued c =
    λ m.
    let ahead = ap (option_and_then queue_ahead) (sym c.reference.ensures) ∙ sym c.queue_ahead.ensures ∙ c.in-Some.is in
    let is_q = ahead_is_queue c.args.heap.now.graph c.args.reference c.in-Some.queue c.requires.fit c.requires.reference ahead in
    enqueued_in_queue m c.args.heap.now.graph _ _ _ _ c.args.reference c.in-Some.queue c.requires.reference is_q ahead
    c.link.ensures.graph c.cut_queue_edge.ensures.graph c.set_state.ensures.graph c.clear-2.ensures.graph

-- the queue ahead is an object before the member is linked and after
pub cut_queue_edge-requires-clause-object : goal.cut_queue_edge-requires-clause-object
cut_queue_edge-requires-clause-object c =
    let g = c.args.heap.now.graph in
    let s = c.args.reference in
    let ahead = ap (option_and_then queue_ahead) (sym c.reference.ensures) ∙ sym c.queue_ahead.ensures ∙ c.in-Some.is in
    let is_q = ahead_is_queue g s c.in-Some.queue c.requires.fit c.requires.reference ahead in
    let same : at c.link.new.self.graph.objects s ≡ at g.objects s =
    ap (λ (k : Graph). at k.objects s) c.link.ensures.graph
    ∙ change_other g.objects c.in-Some.queue s (with_members (λ members. members ++ s ∷ []))
    (apart g.objects s c.in-Some.queue c.requires.reference is_q) in
    λ x e.
    let x_ahead = sym (ahead_in (at g.objects s) c.requires.reference) ∙ ap (λ (o : Option Object). next_in o) (sym same) ∙ e in
    let x_is_q = ahead_is_queue g s x c.requires.fit c.requires.reference x_ahead in
    ap (λ (k : Graph). is_some (at k.objects x)) c.link.ensures.graph
    ∙ still_there g.objects c.in-Some.queue x (with_members (λ members. members ++ s ∷ [])) (queue_is_object (at g.objects x) x_is_q)

-- and nothing is ahead once its edge is cut
pub set_state-requires-clause-edge : goal.set_state-requires-clause-edge
set_state-requires-clause-edge c =
    let s = c.args.reference in
    let here : at c.cut_queue_edge.new.self.graph.objects s
    ≡ option_map (with_reference unregistered) (at c.link.new.self.graph.objects s) =
    ap (λ (k : Graph). at k.objects s) c.cut_queue_edge.ensures.graph
    ∙ change_here c.link.new.self.graph.objects s (with_reference unregistered) in
    subst (λ (o : Option Object). next_in (option_map (with_reference (in_state Queued)) o) ≡ next_in o) (sym here)
    (none_ahead_of_unregistered (at c.link.new.self.graph.objects s))

pub returns-clause-shaded : goal.returns-clause-shaded
returns-clause-shaded c =
    let g = c.args.heap.now.graph in
    let s = c.args.reference in
    let ahead = ap (option_and_then queue_ahead) (sym c.reference.ensures) ∙ sym c.queue_ahead.ensures ∙ c.in-Some.is in
    let is_q = ahead_is_queue g s c.in-Some.queue c.requires.fit c.requires.reference ahead in
    let same : at c.link.new.self.graph.objects s ≡ at g.objects s =
    ap (λ (k : Graph). at k.objects s) c.link.ensures.graph
    ∙ change_other g.objects c.in-Some.queue s (with_members (λ members. members ++ s ∷ []))
    (apart g.objects s c.in-Some.queue c.requires.reference is_q) in
    let before = subst (λ (o : Option Object). Shaded (λ x. next_in o ≡ Some x) c.link.new.self.marking c.cut_queue_edge.new.self.marking)
    same c.cut_queue_edge.ensures.shaded in
    let from = subst (λ (m : Marking). Shaded (λ x. next_in (at g.objects s) ≡ Some x) m c.cut_queue_edge.new.self.marking)
    c.link.ensures.marking before in
    subst (λ (m : Marking). Shaded (λ x. next_in (at g.objects s) ≡ Some x) c.args.heap.now.marking m)
    (sym (c.clear-2.ensures.marking ∙ c.set_state.ensures.marking)) from

-- without a queue ahead nothing is shaded
pub returns-in_default-clause-shaded : goal.returns-in_default-clause-shaded
returns-in_default-clause-shaded c =
    let o = at c.args.heap.now.graph.objects c.args.reference in
    let none = ap (option_and_then queue_ahead) (sym c.reference.ensures) ∙ sym c.queue_ahead.ensures ∙ c.in_default.is in
    subst (λ (m : Marking). Shaded (λ x. next_in o ≡ Some x) c.args.heap.now.marking m) (sym c.clear.ensures.marking)
    (shaded_none _ (λ x e. no_some x (sym none ∙ sym (ahead_in o c.requires.reference) ∙ e)) c.args.heap.now.marking)
