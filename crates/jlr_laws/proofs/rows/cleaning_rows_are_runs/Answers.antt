use Rattle.std.proofs.Common.{refl}
use Rattle.jlr_laws.specs.Rows.{one_resource, start, two_sessions}
use Rattle.jlr_laws.specs.CleaningRows.{cleaner_row, file_row, failed_cleaning_row, closed_row, rid_again_row, one_resource_row}
use Rattle.jlr_laws.specs.CleaningRows.{two_sessions_row}
use Rattle.jlr_laws.proofs.RowTest.{run_by_test}
use Rattle.jlr_laws.proofs.rows.cleaning_rows_are_runs.Goals as goal

pub returns-clause-cleaner : goal.returns-clause-cleaner
returns-clause-cleaner c = run_by_test start cleaner_row refl

pub returns-clause-file : goal.returns-clause-file
returns-clause-file c = run_by_test start file_row refl

pub returns-clause-failed_cleaning : goal.returns-clause-failed_cleaning
returns-clause-failed_cleaning c = run_by_test start failed_cleaning_row refl

pub returns-clause-closed : goal.returns-clause-closed
returns-clause-closed c = run_by_test start closed_row refl

pub returns-clause-rid_again : goal.returns-clause-rid_again
returns-clause-rid_again c = run_by_test start rid_again_row refl

pub returns-clause-one_resource : goal.returns-clause-one_resource
returns-clause-one_resource c = run_by_test one_resource one_resource_row refl

pub returns-clause-two_sessions : goal.returns-clause-two_sessions
returns-clause-two_sessions c = run_by_test two_sessions two_sessions_row refl
