use Rattle.std.proofs.Common.{subst}
use Rattle.std.specs.Prelude.{IfSome}
use Rattle.jlr_marks.specs.Marking.{IsMarked, place}
use Rattle.jlr_barrier.specs.Graphs.{Known}
use Rattle.jlr_barrier.specs.Parts.{IsBegun}
use Rattle.jlr_barrier.specs.Snapshots.{IsObject}
use Rattle.jlr_barrier.proofs.Ending.{upcoming_begun, upcoming_there}
use Rattle.jlr_barrier.proofs.heap.Heap.next_grey.Goals as goal

pub returns-clause-there : goal.returns-clause-there
returns-clause-there c =
    subst (λ (k : Known). IfSome c.next_grey.result (λ s. IsMarked k.marking s × IsObject k.graph.objects s)) c.self.view_is
    (upcoming_there _ _ _ c.self.invariant c.next_grey.result c.next_grey.ensures)

pub returns-clause-begun : goal.returns-clause-begun
returns-clause-begun c =
    subst (λ (k : Known). IfSome c.next_grey.result (λ s. IsBegun k.graph.objects (place k.marking s) s)) c.self.view_is
    (upcoming_begun _ _ _ c.self.invariant c.next_grey.result c.next_grey.ensures)
