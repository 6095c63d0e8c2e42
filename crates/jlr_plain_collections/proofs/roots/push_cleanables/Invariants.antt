use Rattle.std.proofs.Common.{◌≡◌, ◌++◌, take}
use Rattle.jlr_machine.specs.Edges.{active_cleanables}
use Rattle.jlr_plain_collections.proofs.roots.push_cleanables.Given as goal

abbrev pub invariant-loop-i : goal.invariant-loop-i
invariant-loop-i l = l.out.items ≡ l.fn.out.items ++ active_cleanables 0 (take l.i l.places)
