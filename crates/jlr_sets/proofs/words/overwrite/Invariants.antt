use Rattle.std.proofs.Common.{◌≡◌, ◌<◌, ◌≤◌, ℕ, slice_index_or}
use Rattle.jlr_sets.proofs.words.overwrite.Given as goal

abbrev pub invariant-loop-at : goal.invariant-loop-at
invariant-loop-at l = record {
  first : (k : ℕ) → k < l.at → slice_index_or l.words k 0 ≡ slice_index_or l.first k 0;
  rest : (k : ℕ) → l.at ≤ k → slice_index_or l.words k 0 ≡ slice_index_or l.fn.words k 0;
}
