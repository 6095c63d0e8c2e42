use Rattle.std.proofs.Common.{inl, sym, subst, ◌∙◌}
use Rattle.jlr_marks.specs.Marking.{Marking, IsMarked}
use Rattle.jlr_process.proofs.Settled.{cleanable_handed_over}
use Rattle.jlr_process.proofs.settle.settle_cleanable.Goals as goal

pub returns-then-is_armed-clause-graph : goal.returns-then-is_armed-clause-graph
returns-then-is_armed-clause-graph c =
    cleanable_handed_over c.args.heap.now.marking c.args.heap.now.graph _ _ _ c.args.slot c.in-Some.referent c.args.cleanable
    c.requires.here c.in-Some.is (sym c.is_marked.ensures ∙ c.if-is_marked.false) (sym c.is_armed.ensures ∙ c.if-is_armed.true)
    c.clear_cleanable.ensures.graph c.set_clean_state.ensures.graph c.add_pending.ensures.graph

pub set_clean_state-requires-clause-root : goal.set_clean_state-requires-clause-root
set_clean_state-requires-clause-root c =
    λ h. inl (subst (λ (m : Marking). IsMarked m c.args.slot) (sym c.clear_cleanable.ensures.marking) c.requires.marked)

pub add_pending-requires-clause-held : goal.add_pending-requires-clause-held
add_pending-requires-clause-held c =
    inl (subst (λ (m : Marking). IsMarked m c.args.slot) (sym (c.set_clean_state.ensures.marking ∙ c.clear_cleanable.ensures.marking))
    c.requires.marked)
