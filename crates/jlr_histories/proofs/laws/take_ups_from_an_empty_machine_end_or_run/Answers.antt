use Rattle.jlr_histories.proofs.Histories.{taken_up_in_runs, take_ups_end_or_run}
use Rattle.jlr_histories.proofs.laws.take_ups_from_an_empty_machine_end_or_run.Goals as goal

pub returns-clause-at_most_once : goal.returns-clause-at_most_once
returns-clause-at_most_once c = taken_up_in_runs

pub returns-clause-accounted : goal.returns-clause-accounted
returns-clause-accounted c = take_ups_end_or_run
