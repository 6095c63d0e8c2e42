use Rattle.std.proofs.Common.{◌≡◌, take, map}
use Rattle.jlr_machine.specs.Lookups.{blank}
use Rattle.jlr_plain_asks.proofs.changes.making.blank_fields.Given as goal

abbrev pub invariant-loop-field : goal.invariant-loop-field
invariant-loop-field l = l.out.items ≡ map blank (take l.field l.layout)
