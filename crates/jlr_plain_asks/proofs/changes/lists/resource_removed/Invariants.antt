use Rattle.std.proofs.Common.{◌≡◌, take, filter, not}
use Rattle.std.specs.Prelude.{◌==◌}
use Rattle.jlr_plain_asks.proofs.changes.lists.resource_removed.Given as goal

abbrev pub invariant-loop-resource : goal.invariant-loop-resource
invariant-loop-resource l = l.out.items ≡ filter (λ r. not (r.rid == l.rid)) (take l.resource-index l.resources)
