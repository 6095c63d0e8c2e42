use Rattle.std.proofs.Common.{take}
use Rattle.jlr_plain_collections.specs.Marks.{IsTable}
use Rattle.jlr_plain_collections.proofs.listed.put_all.Given as goal

abbrev pub invariant-loop-slot : goal.invariant-loop-slot
invariant-loop-slot l = IsTable (take l.slot-index l.slots) l.marks
