use Rattle.std.proofs.Common.{◌<◌, ◌∙◌, None, ap, arith, length, sym}
use Rattle.std.proofs.lemmas.List.{get_or-map, length-map}
use Rattle.std.specs.Prelude.{map, slice_index_or}
use Rattle.jlr_cells.specs.Kinds.{shown_kind}
use Rattle.jlr_cells.proofs.kinds.Kinds.at.Goals as goal

pub index-requires : goal.index-requires
index-requires c = omega (arith, c.requires, c.number.ensures, ap length c.self.view_is, length-map c.self.inside.labels.items shown_kind)

pub returns : goal.returns
returns c =
    let labels = c.self.inside.labels.items in
    let below : c.number.result < length labels =
    omega (arith, c.requires, c.number.ensures, ap length c.self.view_is, length-map labels shown_kind) in
    c.kind_of.ensures
    ∙ ap shown_kind c.index.ensures
    ∙ sym (get_or-map shown_kind labels c.number.result c.index.result.now None below)
    ∙ ap (λ n. slice_index_or (map shown_kind labels) n None) c.number.ensures
    ∙ ap (λ l. slice_index_or l c.args.slot None) c.self.view_is
