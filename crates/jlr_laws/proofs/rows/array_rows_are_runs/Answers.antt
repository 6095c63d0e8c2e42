use Rattle.std.proofs.Common.{refl}
use Rattle.jlr_laws.specs.Rows.{start}
use Rattle.jlr_laws.specs.ArrayRows.{array_row, array_in_cycle_row}
use Rattle.jlr_laws.proofs.RowTest.{run_by_test}
use Rattle.jlr_laws.proofs.rows.array_rows_are_runs.Goals as goal

pub returns-clause-array : goal.returns-clause-array
returns-clause-array c = run_by_test start array_row refl

pub returns-clause-array_in_cycle : goal.returns-clause-array_in_cycle
returns-clause-array_in_cycle c = run_by_test start array_in_cycle_row refl
