use Rattle.std.proofs.Common.{◌≡◌, drop}
use Rattle.jlr_resource.specs.Resources.{resource_in}
use Rattle.jlr_low_rows.proofs.tests.cleaner.resource_at.Given as goal

abbrev pub invariant-loop-resource : goal.invariant-loop-resource
invariant-loop-resource l = resource_in (drop l.resource-index l.resources) l.rid ≡ resource_in l.resources l.rid
