use Rattle.jlr_histories.proofs.Forward.{reference_life, cleanable_life}
use Rattle.jlr_histories.proofs.laws.a_life_only_goes_forward.Goals as goal

pub returns-clause-references : goal.returns-clause-references
returns-clause-references c = reference_life

pub returns-clause-cleanables : goal.returns-clause-cleanables
returns-clause-cleanables c = cleanable_life
