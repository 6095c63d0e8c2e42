use Rattle.std.proofs.Common.{inl, sym, subst, ap, ◌∙◌}
use Rattle.jlr_marks.specs.Marking.{Marking, IsMarked}
use Rattle.jlr_barrier.specs.Graphs.{Graph}
use Rattle.jlr_process.proofs.Settled.{handed_over, same_queue_ahead}
use Rattle.jlr_process.proofs.settle.settle_reference.Goals as goal

pub returns-then-is_ready-clause-graph : goal.returns-then-is_ready-clause-graph
returns-then-is_ready-clause-graph c =
    handed_over c.args.heap.now.marking c.args.heap.now.graph _ _ _ c.args.slot c.in-Some.referent c.args.reference c.requires.here
    c.in-Some.is (sym c.is_marked.ensures ∙ c.if-is_marked.false) (sym c.is_ready.ensures ∙ c.if-is_ready.true)
    c.lose_referent.ensures.graph c.set_state.ensures.graph c.add_pending.ensures.graph

pub set_state-requires-clause-edge : goal.set_state-requires-clause-edge
set_state-requires-clause-edge c =
    same_queue_ahead c.args.heap.now.graph.objects c.lose_referent.new.self.graph.objects c.args.slot c.args.reference c.requires.here
    (ap (λ (g : Graph). g.objects) c.lose_referent.ensures.graph) (sym c.is_ready.ensures ∙ c.if-is_ready.true)

pub add_pending-requires-clause-held : goal.add_pending-requires-clause-held
add_pending-requires-clause-held c =
    inl (subst (λ (m : Marking). IsMarked m c.args.slot) (sym (c.set_state.ensures.marking ∙ c.lose_referent.ensures.marking))
    c.requires.marked)
