use Rattle.std.proofs.Common.{refl}
use Rattle.jlr_laws.specs.Rows.{start}
use Rattle.jlr_laws.specs.ReferenceRows.{weak_row, two_weak_row, queue_row, self_reference_row, clear_row, phantom_row, program_first_row}
use Rattle.jlr_laws.specs.ReferenceRows.{soft_chain_row, soft_age_row, soft_used_row}
use Rattle.jlr_laws.proofs.RowTest.{run_by_test}
use Rattle.jlr_laws.proofs.rows.reference_rows_are_runs.Goals as goal

pub returns-clause-weak : goal.returns-clause-weak
returns-clause-weak c = run_by_test start weak_row refl

pub returns-clause-two_weak : goal.returns-clause-two_weak
returns-clause-two_weak c = run_by_test start two_weak_row refl

pub returns-clause-queue : goal.returns-clause-queue
returns-clause-queue c = run_by_test start queue_row refl

pub returns-clause-self_reference : goal.returns-clause-self_reference
returns-clause-self_reference c = run_by_test start self_reference_row refl

pub returns-clause-clear : goal.returns-clause-clear
returns-clause-clear c = run_by_test start clear_row refl

pub returns-clause-phantom : goal.returns-clause-phantom
returns-clause-phantom c = run_by_test start phantom_row refl

pub returns-clause-program_first : goal.returns-clause-program_first
returns-clause-program_first c = run_by_test start program_first_row refl

pub returns-clause-soft_chain : goal.returns-clause-soft_chain
returns-clause-soft_chain c = run_by_test start soft_chain_row refl

pub returns-clause-soft_age : goal.returns-clause-soft_age
returns-clause-soft_age c = run_by_test start soft_age_row refl

pub returns-clause-soft_used : goal.returns-clause-soft_used
returns-clause-soft_used c = run_by_test start soft_used_row refl
