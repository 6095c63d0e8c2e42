use Rattle.std.specs.Prelude.{◌≡◌, length}
use Rattle.jlr_server_rows.proofs.tests.listeners.devices.Given as goal

abbrev pub invariant-loop : goal.invariant-loop
invariant-loop l = length l.devices.items ≡ l.counter
