use Rattle.jlr_histories.proofs.Outcomes.{finish_records_the_outcome, takers_finish_is_recorded, only_outcomes_are_recorded}
use Rattle.jlr_histories.proofs.laws.a_finish_records_the_outcome.Goals as goal

pub returns-clause-recorded : goal.returns-clause-recorded
returns-clause-recorded c = finish_records_the_outcome

pub returns-clause-never_refused : goal.returns-clause-never_refused
returns-clause-never_refused c = takers_finish_is_recorded

pub returns-clause-only_so : goal.returns-clause-only_so
returns-clause-only_so c = only_outcomes_are_recorded
