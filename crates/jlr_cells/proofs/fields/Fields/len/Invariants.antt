use Rattle.std.proofs.Common.{◌≤◌, ◌-◌, length}
use Rattle.jlr_cells.proofs.fields.Fields.len.Given as goal

abbrev pub invariant-loop-count : goal.invariant-loop-count
invariant-loop-count l = record { within : l.count ≤ length l.self; few : l.count ≤ 8 }

abbrev pub decreases-loop-count : goal.decreases-loop-count
decreases-loop-count l = length l.self - l.count
