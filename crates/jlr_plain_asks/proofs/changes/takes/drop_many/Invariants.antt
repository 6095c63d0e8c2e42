use Rattle.std.proofs.Common.{◌≡◌, drop}
use Rattle.jlr_plain_asks.proofs.changes.takes.drop_many.Given as goal

abbrev pub invariant-loop : goal.invariant-loop
invariant-loop l = l.slots ≡ drop l.counter l.fn.slots
