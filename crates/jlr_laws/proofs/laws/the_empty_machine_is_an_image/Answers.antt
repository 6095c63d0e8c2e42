use Rattle.jlr_laws.proofs.Empty.{empty_from_is_an_image}
use Rattle.jlr_laws.proofs.laws.the_empty_machine_is_an_image.Goals as goal

pub returns : goal.returns
returns c = empty_from_is_an_image
