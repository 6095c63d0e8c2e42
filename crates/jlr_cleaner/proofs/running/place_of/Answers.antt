use Rattle.std.proofs.Common.{◌∙◌, ap, unwrap_or, length}
use Rattle.jlr_cleaner.proofs.Listing.{is_above, place_found}
use Rattle.jlr_cleaner.proofs.running.place_of.Goals as goal

pub returns-clause-place : goal.returns-clause-place
returns-clause-place c =
    c.unwrap_or.ensures ∙ ap (λ o. unwrap_or o (length c.args.jobs.now)) c.above.ensures
    ∙ (place_found (is_above c.args.action) c.args.jobs.now).0
