use Rattle.std.proofs.Common.{◌≡◌, ◌++◌, drop}
use Rattle.jlr_machine.specs.Lookups.{bound}
use Rattle.jlr_plain_asks.proofs.changes.lists.name_bound.Given as goal

abbrev pub invariant-loop-i : goal.invariant-loop-i
invariant-loop-i l = l.out.items ++ bound (drop l.i l.names) l.name l.slot ≡ bound l.names l.name l.slot
