use Rattle.jlr_histories.proofs.Enqueued.{enqueued_at_most_once, enqueued_on_its_way}
use Rattle.jlr_histories.proofs.laws.a_reference_is_enqueued_at_most_once.Goals as goal

pub returns-clause-at_most_once : goal.returns-clause-at_most_once
returns-clause-at_most_once c = enqueued_at_most_once

pub returns-clause-on_its_way : goal.returns-clause-on_its_way
returns-clause-on_its_way c = enqueued_on_its_way
