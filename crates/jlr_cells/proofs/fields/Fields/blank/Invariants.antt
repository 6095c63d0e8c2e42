use Rattle.std.proofs.Common.{◌≡◌, map, take}
use Rattle.jlr_machine.specs.Lookups.{blank}
use Rattle.jlr_cells.proofs.fields.Fields.blank.Given as goal

-- the fields so far are blank
abbrev pub invariant-loop-field : goal.invariant-loop-field
invariant-loop-field l = l.fields ≡ map blank (take l.field l.layout)
