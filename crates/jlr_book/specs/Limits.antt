-- What no entry changes: how many cells, mutators and resources there may be.
use Rattle.std.specs.Prelude.{◌≡◌, length}
use Rattle.jlr_machine.specs.declared.machine.Machine.{Machine}

pub record HasSameLimits (m n : Machine) : Type 0 where
  pub cells : length n.objects ≡ length m.objects
  pub sessions : length n.mutators ≡ length m.mutators
  pub resources : n.resource_limit ≡ m.resource_limit
