use Rattle.std.proofs.Common.{refl}
use Rattle.jlr_laws.specs.Rows.{late_start, start}
use Rattle.jlr_laws.specs.RefusalRows.{refused_row, wrong_moment_row, exhausted_row, full_heap_row, soft_full_row, names_row}
use Rattle.jlr_laws.specs.RefusalRows.{names_full_row}
use Rattle.jlr_laws.proofs.RowTest.{run_by_test}
use Rattle.jlr_laws.proofs.rows.refusal_rows_are_runs.Goals as goal

pub returns-clause-refused : goal.returns-clause-refused
returns-clause-refused c = run_by_test start refused_row refl

pub returns-clause-wrong_moment : goal.returns-clause-wrong_moment
returns-clause-wrong_moment c = run_by_test start wrong_moment_row refl

pub returns-clause-exhausted : goal.returns-clause-exhausted
returns-clause-exhausted c = run_by_test late_start exhausted_row refl

pub returns-clause-full_heap : goal.returns-clause-full_heap
returns-clause-full_heap c = run_by_test start full_heap_row refl

pub returns-clause-soft_full : goal.returns-clause-soft_full
returns-clause-soft_full c = run_by_test start soft_full_row refl

pub returns-clause-names : goal.returns-clause-names
returns-clause-names c = run_by_test start names_row refl

pub returns-clause-names_full : goal.returns-clause-names_full
returns-clause-names_full c = run_by_test start names_full_row refl
