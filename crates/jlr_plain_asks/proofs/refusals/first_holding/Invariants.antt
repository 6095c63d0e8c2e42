use Rattle.std.proofs.Common.{◌≡◌, drop, find}
use Rattle.jlr_machine.specs.Refusals.{applies}
use Rattle.jlr_plain_asks.proofs.refusals.first_holding.Given as goal

abbrev pub invariant-loop-by : goal.invariant-loop-by
invariant-loop-by l = find (applies l.machine l.ask) (drop l.by-index l.refusals) ≡ find (applies l.fn.machine l.fn.ask) l.fn.refusals
