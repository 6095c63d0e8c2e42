use Rattle.std.proofs.Common.{◌≢◌, ◌<◌, ℕ, slice_index_or}
use Rattle.jlr_wire.proofs.cut.cut_field.Given as goal

-- no byte before is a space
abbrev pub invariant-loop-at : goal.invariant-loop-at
invariant-loop-at l = (k d : ℕ) → k < l.at → slice_index_or l.line k d ≢ 32
