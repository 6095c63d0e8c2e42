use Rattle.std.proofs.Common.{◌∙◌, ap, sym}
use Rattle.std.specs.Prelude.{option_copied, unwrap_or}
use Rattle.jlr_cells.specs.declared.cell.Cell.TheVariants.{Free}
use Rattle.jlr_cells.specs.Contents.{field_in}
use Rattle.jlr_cells.proofs.Slots.{at_gotten}
use Rattle.jlr_cells.proofs.store.field_of.Goals as goal

pub returns-in-Some : goal.returns-in-Some
returns-in-Some c =
    let got = sym (ap (λ o. unwrap_or (option_copied o) Free) c.in-Some.is) ∙ c.get.ensures in
    let found = at_gotten c.args.cells.now c.number.result c.args.slot c.in-Some.cell.now c.number.ensures got in
    c.field.ensures ∙ ap (λ o. field_in o c.args.field) (sym found)

pub returns-in-None : goal.returns-in-None
returns-in-None c =
    let got = sym (ap (λ o. unwrap_or (option_copied o) Free) c.in-None.is) ∙ c.get.ensures in
    ap (λ o. field_in o c.args.field) (sym (at_gotten c.args.cells.now c.number.result c.args.slot Free c.number.ensures got))
