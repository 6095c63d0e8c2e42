use Rattle.std.proofs.Common.{◌≡◌, ◌++◌, take}
use Rattle.jlr_plain_asks.proofs.changes.lists.push_bindings.Given as goal

abbrev pub invariant-loop-binding : goal.invariant-loop-binding
invariant-loop-binding l = l.out.items ≡ l.fn.out.items ++ take l.binding-index l.names
