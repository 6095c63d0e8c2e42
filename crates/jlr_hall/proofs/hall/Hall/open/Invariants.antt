use Rattle.std.specs.Prelude.{ℕ, ◌≡◌, ◌<◌, [], length, slice_index_or}
use Rattle.jlr_log.specs.Seeing.{Seen, seen, whole_history}
use Rattle.jlr_hall.specs.declared.step.Step.{Step}
use Rattle.jlr_hall.proofs.hall.Hall.open.Given as goal

abbrev pub invariant-loop-index : goal.invariant-loop-index
invariant-loop-index g l = record {
  keeper : l.keeper ≡ whole_history [] l.index;
  count : length l.seats.items ≡ l.index;
  seats : (k : ℕ) (p : Seen (Step g.row.R.Denot)) → k < l.index → slice_index_or l.seats.items k p ≡ seen k [];
}
