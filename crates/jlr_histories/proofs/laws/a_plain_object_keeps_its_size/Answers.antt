use Rattle.jlr_histories.proofs.Forward.{plain_keeps_its_size}
use Rattle.jlr_histories.proofs.laws.a_plain_object_keeps_its_size.Goals as goal

pub returns : goal.returns
returns c = plain_keeps_its_size
