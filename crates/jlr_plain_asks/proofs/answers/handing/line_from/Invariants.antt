use Rattle.std.proofs.Common.{◌≡◌, drop}
use Rattle.jlr_machine.specs.Calls.{from_lined}
use Rattle.jlr_plain_asks.proofs.answers.handing.line_from.Given as goal

abbrev pub invariant-loop-i : goal.invariant-loop-i
invariant-loop-i l = from_lined l.machine (drop l.i l.slots) ≡ from_lined l.machine l.slots
