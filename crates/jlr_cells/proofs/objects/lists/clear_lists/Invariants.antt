use Rattle.std.proofs.Common.{◌≡◌, ◌-◌, ◌<◌, ℕ, [], length, map, true, false}
use Rattle.std.specs.Prelude.{is_some}
use Rattle.jlr_machine.specs.Objects.{at, some_and}
use Rattle.jlr_sets.specs.SlotSets.{is_in}
use Rattle.jlr_cells.specs.Contents.{is_array, members_in}
use Rattle.jlr_cells.specs.Showing.{shown}
use Rattle.jlr_cells.proofs.objects.lists.clear_lists.Given as goal

-- so far the queues below `from` that are listed are kept
abbrev pub invariant-loop-slot : goal.invariant-loop-slot
invariant-loop-slot l = record {
  same : shown l.kept l.store ≡ shown l.kept l.fn.store;
  used : map is_some l.store ≡ map is_some l.fn.store;
  places : length l.listed ≡ length l.fn.listed;
  queues : (s : ℕ) → s < l.from → is_in l.listed s ≡ true → is_in l.kept s ≡ true;
  arrays : (s : ℕ) → some_and is_array (at l.store s) ≡ some_and is_array (at l.fn.store s);
  members : (s : ℕ) → is_in l.listed s ≡ false → members_in (at l.store s) ≡ [];
}

abbrev pub decreases-loop-slot : goal.decreases-loop-slot
decreases-loop-slot l = length l.fn.listed - l.from
