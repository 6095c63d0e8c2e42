use Rattle.std.proofs.Common.{List, length}
use Rattle.jlr_book.specs.Histories.{History}
use Rattle.jlr_heap.specs.Recording.{HandsOverRecorded}
use Rattle.jlr_heap.proofs.recorded.Recorded.hand_all_over.Given as goal

abbrev pub invariant-loop-self : goal.invariant-loop-self
invariant-loop-self g l = (states : List (History g.row.R.Denot)) × HandsOverRecorded states l.fn.self l.self

abbrev pub decreases-loop-self : goal.decreases-loop-self
decreases-loop-self g l = length l.self.core.machine.pending
