use Rattle.std.proofs.Common.{◌∙◌, None, ap, sym}
use Rattle.std.specs.Prelude.{option_copied, slice_index_or, unwrap_or}
use Rattle.jlr_machine.specs.Objects.{at}
use Rattle.jlr_cleaner.proofs.waiting.Waiting.at.Goals as goal

pub returns-in-None : goal.returns-in-None
returns-in-None c =
    let actions = c.self.inside.actions in
    sym (ap (λ o. unwrap_or (option_copied o) None) c.in-None.is) ∙ c.get.ensures
    ∙ ap (λ s. slice_index_or actions s None) c.number.ensures ∙ ap (λ l. at l c.args.place) c.self.view_is
