use Rattle.std.proofs.Common.{◌≡◌, take, map}
use Rattle.std.specs.Prelude.{◌==◌, if◌then◌else◌}
use Rattle.jlr_machine.specs.declared.machine.Resource.{Resource}
use Rattle.jlr_plain_asks.proofs.changes.lists.resource_moved.Given as goal

abbrev pub invariant-loop-resource : goal.invariant-loop-resource
invariant-loop-resource l = l.out.items ≡ map {A = Resource} {B = Resource}
    (λ r. if r.rid == l.rid then record r { state = l.state } else r) (take l.resource-index l.resources)
