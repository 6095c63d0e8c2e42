use Rattle.std.proofs.Common.{length, ◌+◌, ◌-◌}
use Rattle.jlr_laws.specs.Laws.{only}
use Rattle.jlr_plain_collections.specs.Marks.{marked_count, chain_of}
use Rattle.jlr_plain_collections.proofs.Marking.{IsMarking}
use Rattle.jlr_plain_collections.proofs.reached.mark_reached.Given as goal

abbrev pub invariant-loop-slot : goal.invariant-loop-slot
invariant-loop-slot l = IsMarking (chain_of l.softly) (only l.kept l.objects) l.base l.marks l.todo.items

abbrev pub decreases-loop-slot : goal.decreases-loop-slot
decreases-loop-slot l = (length l.objects - marked_count l.marks) + length l.todo.items
