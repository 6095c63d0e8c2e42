use Rattle.jlr_histories.proofs.Histories.{references_in_histories, cleanables_in_histories, enqueued_in_histories}
use Rattle.jlr_histories.proofs.laws.lives_from_an_empty_machine_only_go_forward.Goals as goal

pub returns-clause-references : goal.returns-clause-references
returns-clause-references c = references_in_histories

pub returns-clause-cleanables : goal.returns-clause-cleanables
returns-clause-cleanables c = cleanables_in_histories

pub returns-clause-enqueued : goal.returns-clause-enqueued
returns-clause-enqueued c = enqueued_in_histories
