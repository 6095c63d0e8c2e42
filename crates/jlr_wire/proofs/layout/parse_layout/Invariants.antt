use Rattle.std.proofs.Common.{◌≡◌, ◌≤◌, length, take, map}
use Rattle.jlr_wire.specs.Commands.{letter}
use Rattle.jlr_wire.proofs.layout.parse_layout.Given as goal

abbrev pub invariant-loop-letter : goal.invariant-loop-letter
invariant-loop-letter l = (length l.layout ≤ 8) × (map letter l.layout ≡ take l.letter-index l.text)
