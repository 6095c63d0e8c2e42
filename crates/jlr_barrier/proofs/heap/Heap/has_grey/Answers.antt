use Rattle.std.proofs.Common.{◌≡◌, [], length, subst}
use Rattle.jlr_barrier.specs.Graphs.{Known}
use Rattle.jlr_barrier.specs.Snapshots.{HoldsWhole}
use Rattle.jlr_barrier.proofs.Ending.{holds_still, holds_whole}
use Rattle.jlr_barrier.proofs.heap.Heap.has_grey.Goals as goal

pub returns-clause-whole : goal.returns-clause-whole
returns-clause-whole c = subst (λ (k : Known). k.marking.grey ≡ [] → HoldsWhole k) c.self.view_is
    (λ none. holds_still _ _ _ _ (holds_whole _ _ _ c.self.invariant none))

pub returns-clause-bits : goal.returns-clause-bits
returns-clause-bits c = subst (λ (k : Known). length k.marking.bits ≡ length k.graph.objects) c.self.view_is c.self.invariant.bits
