use Rattle.std.proofs.Common.{◌≡◌, ◌++◌, take}
use Rattle.jlr_plain_collections.proofs.edges.push_all.Given as goal

abbrev pub invariant-loop-slot : goal.invariant-loop-slot
invariant-loop-slot l = l.out.items ≡ l.fn.out.items ++ take l.slot-index l.slots
