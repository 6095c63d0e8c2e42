use Rattle.std.proofs.Common.{◌∙◌, ap, is_some}
use Rattle.jlr_cleaner.proofs.Listing.{position_tells}
use Rattle.jlr_cleaner.proofs.running.is_running.Goals as goal

pub returns : goal.returns
returns c = c.is_some.ensures ∙ ap is_some c.position.ensures ∙ position_tells c.args.jobs.now c.args.action
