use Rattle.std.proofs.Common.{refl}
use Rattle.jlr_laws.specs.Rows.{start}
use Rattle.jlr_laws.specs.CycleRows.{cycle_row, snapshot_row, deref_in_cycle_row, seen_reference_row, soft_cleared_in_cycle_row}
use Rattle.jlr_laws.specs.CycleRows.{soft_kept_in_cycle_row, waiting_collect_row, full_heap_in_cycle_row, poll_in_cycle_row}
use Rattle.jlr_laws.specs.CycleRows.{many_dropped_row}
use Rattle.jlr_laws.proofs.RowTest.{run_by_test}
use Rattle.jlr_laws.proofs.rows.cycle_rows_are_runs.Goals as goal

pub returns-clause-cycle : goal.returns-clause-cycle
returns-clause-cycle c = run_by_test start cycle_row refl

pub returns-clause-snapshot : goal.returns-clause-snapshot
returns-clause-snapshot c = run_by_test start snapshot_row refl

pub returns-clause-deref_in_cycle : goal.returns-clause-deref_in_cycle
returns-clause-deref_in_cycle c = run_by_test start deref_in_cycle_row refl

pub returns-clause-seen_reference : goal.returns-clause-seen_reference
returns-clause-seen_reference c = run_by_test start seen_reference_row refl

pub returns-clause-soft_cleared_in_cycle : goal.returns-clause-soft_cleared_in_cycle
returns-clause-soft_cleared_in_cycle c = run_by_test start soft_cleared_in_cycle_row refl

pub returns-clause-soft_kept_in_cycle : goal.returns-clause-soft_kept_in_cycle
returns-clause-soft_kept_in_cycle c = run_by_test start soft_kept_in_cycle_row refl

pub returns-clause-waiting_collect : goal.returns-clause-waiting_collect
returns-clause-waiting_collect c = run_by_test start waiting_collect_row refl

pub returns-clause-full_heap_in_cycle : goal.returns-clause-full_heap_in_cycle
returns-clause-full_heap_in_cycle c = run_by_test start full_heap_in_cycle_row refl

pub returns-clause-poll_in_cycle : goal.returns-clause-poll_in_cycle
returns-clause-poll_in_cycle c = run_by_test start poll_in_cycle_row refl

pub returns-clause-many_dropped : goal.returns-clause-many_dropped
returns-clause-many_dropped c = run_by_test start many_dropped_row refl
