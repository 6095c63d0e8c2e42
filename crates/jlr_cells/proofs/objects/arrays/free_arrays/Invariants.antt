use Rattle.std.proofs.Common.{◌≡◌, ◌-◌, ◌<◌, ℕ, length, false, true}
use Rattle.jlr_machine.specs.Objects.{at, some_and}
use Rattle.jlr_sets.specs.SlotSets.{is_in}
use Rattle.jlr_cells.specs.Contents.{is_array, members_in}
use Rattle.jlr_cells.specs.Showing.{shown}
use Rattle.jlr_cells.proofs.objects.arrays.free_arrays.Given as goal

-- so far no array below `from` lies outside the set
abbrev pub invariant-loop-slot : goal.invariant-loop-slot
invariant-loop-slot l = record {
  same : shown l.kept l.store ≡ shown l.kept l.fn.store;
  kept : (s : ℕ) → is_in l.kept s ≡ true → at l.store s ≡ at l.fn.store s;
  places : length l.store ≡ length l.fn.store;
  members : (s : ℕ) → members_in (at l.store s) ≡ members_in (at l.fn.store s);
  free : (s : ℕ) → s < l.from → is_in l.kept s ≡ false → some_and is_array (at l.store s) ≡ false;
}

abbrev pub decreases-loop-slot : goal.decreases-loop-slot
decreases-loop-slot l = length l.fn.store - l.from
