use Rattle.jlr_histories.proofs.Collecting.{new_objects_fit}
use Rattle.jlr_histories.proofs.ahead.new_objects_fit.Goals as goal

pub returns : goal.returns
returns c = new_objects_fit
