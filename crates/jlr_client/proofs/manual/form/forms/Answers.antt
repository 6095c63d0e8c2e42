use Rattle.jlr_client.proofs.Forms.{each_form_is_listed}
use Rattle.jlr_client.proofs.manual.form.forms.Goals as goal

pub returns-clause-each : goal.returns-clause-each
returns-clause-each c f = each_form_is_listed f
