use Rattle.std.proofs.Common.{length, ◌≤◌, drop}
use Rattle.jlr_plain_collections.proofs.Tables.{MarksRest}
use Rattle.jlr_plain_collections.proofs.collection.all_new.Given as goal

abbrev pub invariant-loop-i : goal.invariant-loop-i
invariant-loop-i l = record {
  within : l.i ≤ length l.slots;
  rest : MarksRest (length l.fn.marks) (drop l.i l.slots) l.marks;
}

abbrev pub decreases-loop-i : goal.decreases-loop-i
decreases-loop-i l = l.i
