-- The counts of a machine that an ask counts up.
use Rattle.std.specs.Prelude.{ℕ, ◌+◌, ◌^◌, ◌<◌}
use Rattle.jlr_machine.specs.declared.machine.Machine.{Machine}
use Rattle.jlr_machine.specs.declared.ask.Ask.{Ask}
use Rattle.jlr_machine.specs.declared.ask.Ask.TheVariants.{Register, Prepare}

-- each has room for one more
pub record HaveRoom (m : Machine) : Type 0 where
  pub taken : m.taken + 1 < 2 ^ 64
  pub ok : m.ok + 1 < 2 ^ 64
  pub failed : m.failed + 1 < 2 ^ 64

-- an ask that names an action finds a number for the next
abbrev pub HasNextAction : ℕ → Ask → Type 0
HasNextAction next (Register k d h note) = next + 1 < 2 ^ 64
HasNextAction next (Prepare k) = next + 1 < 2 ^ 64
HasNextAction next _ = Unit {0}
