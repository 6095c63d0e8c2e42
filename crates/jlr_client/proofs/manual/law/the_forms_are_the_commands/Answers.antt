use Rattle.jlr_client.proofs.Forms.{both}
use Rattle.jlr_client.proofs.manual.law.the_forms_are_the_commands.Goals as goal

pub returns : goal.returns
returns c = both
