use Rattle.std.proofs.lemmas.List.{get_or-replicate}
use Rattle.jlr_hall.proofs.dues.Dues.new.Goals as goal

pub returns-clause-counts : goal.returns-clause-counts
returns-clause-counts c = λ k lt. get_or-replicate 256 k 0 0 lt
