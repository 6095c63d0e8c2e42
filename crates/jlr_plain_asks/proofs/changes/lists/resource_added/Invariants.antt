use Rattle.std.proofs.Common.{◌≡◌, ◌++◌, drop}
use Rattle.jlr_machine.specs.Lookups.{with_resource}
use Rattle.jlr_plain_asks.proofs.changes.lists.resource_added.Given as goal

abbrev pub invariant-loop-i : goal.invariant-loop-i
invariant-loop-i l = l.out.items ++ with_resource (drop l.i l.resources) l.resource ≡ with_resource l.resources l.resource
