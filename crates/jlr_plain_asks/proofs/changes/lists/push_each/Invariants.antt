use Rattle.std.proofs.Common.{◌≡◌, ◌++◌, take}
use Rattle.jlr_plain_asks.proofs.changes.lists.push_each.Given as goal

abbrev pub invariant-loop-item : goal.invariant-loop-item
invariant-loop-item g l = l.out.items ≡ l.fn.out.items ++ take l.item-index l.items
