use Rattle.std.proofs.Common.{◌∙◌, ap, set}
use Rattle.std.proofs.lemmas.List.{map-set}
use Rattle.jlr_cells.specs.Nulls.{link_of}
use Rattle.jlr_cells.proofs.links.Links.set.Goals as goal

pub returns : goal.returns
returns c =
    map-set link_of c.self.inside.slots c.args.place c.number_of.result
    ∙ ap (λ l. set l c.args.place (link_of c.number_of.result)) c.self.view_is
    ∙ ap (set c.args.self.now c.args.place) c.number_of.ensures
