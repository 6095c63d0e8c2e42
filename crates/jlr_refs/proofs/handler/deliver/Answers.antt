use Rattle.std.proofs.Common.{sym, ◌∙◌, subst}
use Rattle.jlr_machine.specs.Objects.{◌∈◌}
use Rattle.jlr_barrier.specs.Graphs.{Graph, in_machine}
use Rattle.jlr_refs.proofs.Handing.{front_in_hand, lined_is_cleanable}
use Rattle.jlr_refs.proofs.InQueues.{gone_from_front, not_in_line}
use Rattle.jlr_refs.proofs.handler.deliver.Goals as goal

-- what is at the front of the pending list is a root
pub enqueue-requires-clause-held : goal.enqueue-requires-clause-held
enqueue-requires-clause-held c = front_in_hand c.args.heap.now c.args.slot c.requires.front

-- it was just taken off
pub line_up-requires-clause-pending : goal.line_up-requires-clause-pending
line_up-requires-clause-pending c =
    λ h. gone_from_front c.args.heap.now.graph.pending c.args.slot c.requires.fit.1.lists.pending_once c.requires.front
    (subst (λ (k : Graph). c.args.slot ∈ k.pending) c.take_pending-in-Lined.ensures.graph h)

pub line_up-requires-clause-line : goal.line_up-requires-clause-line
line_up-requires-clause-line c =
    let g = c.args.heap.now.graph in
    let pending = lined_is_cleanable _ (sym c.requires.handed ∙ c.in-Lined.is) in
    λ h. not_in_line (in_machine c.requires.fit.0 g) c.args.slot pending.0 c.requires.fit.1 pending.1 pending.2
    (subst (λ (k : Graph). c.args.slot ∈ k.line) c.take_pending-in-Lined.ensures.graph h)
