use Rattle.std.proofs.Common.{◌≡◌, drop, find}
use Rattle.std.specs.Prelude.{◌==◌}
use Rattle.jlr_machine.specs.Lookups.{resource_at}
use Rattle.jlr_plain_asks.proofs.lookups.resource_with.Given as goal

abbrev pub invariant-loop-resource : goal.invariant-loop-resource
invariant-loop-resource l = find (λ r. r.rid == l.rid) (drop l.resource-index l.resource-items) ≡ resource_at l.machine l.rid
