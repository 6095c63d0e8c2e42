use Rattle.std.proofs.Common.{◌∙◌, ap}
use Rattle.jlr_cells.specs.Links.{rows}
use Rattle.jlr_cells.proofs.Rows.{new_columns, new_rows}
use Rattle.jlr_cells.proofs.columns.Columns.new.Goals as goal

pub invariant_of-result : goal.invariant_of-result
invariant_of-result c = new_columns c.args.count _ _ _ c.in_ok-new.ensures c.in_ok-new-2.ensures c.in_ok-new-3.ensures

pub returns : goal.returns
returns c =
    ap (λ n. rows n c.in_ok-new-2.field-0) c.in_ok-new.ensures
    ∙ ap (rows _) c.in_ok-new-2.ensures
    ∙ new_rows c.args.count
