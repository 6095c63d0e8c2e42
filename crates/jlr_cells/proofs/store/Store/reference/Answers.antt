use Rattle.std.proofs.Common.{◌∙◌, ap, refl, sym}
use Rattle.std.specs.Prelude.{option_and_then, option_copied, unwrap_or}
use Rattle.jlr_machine.specs.Objects.{as_reference}
use Rattle.jlr_cells.specs.declared.cell.Cell.TheVariants.{Free}
use Rattle.jlr_cells.proofs.Queues.{seen_as}
use Rattle.jlr_cells.proofs.Slots.{at_gotten}
use Rattle.jlr_cells.proofs.store.Store.reference.Goals as goal

pub returns-in-Some : goal.returns-in-Some
returns-in-Some c =
    let s = c.self.inside in
    let got = sym (ap (λ o. unwrap_or (option_copied o) Free) c.in-Some.is) ∙ c.get.ensures in
    let found = at_gotten s.cells c.number.result c.args.slot c.in-Some.cell.now c.number.ensures got in
    let seen = seen_as s.cells s.queues.lists c.args.self.now c.self.view_is (option_and_then as_reference) c.args.slot (λ l m. refl) in
    c.reference.ensures ∙ ap (option_and_then as_reference) (sym found) ∙ sym seen

pub returns-in-None : goal.returns-in-None
returns-in-None c =
    let s = c.self.inside in
    let got = sym (ap (λ o. unwrap_or (option_copied o) Free) c.in-None.is) ∙ c.get.ensures in
    let found = at_gotten s.cells c.number.result c.args.slot Free c.number.ensures got in
    let seen = seen_as s.cells s.queues.lists c.args.self.now c.self.view_is (option_and_then as_reference) c.args.slot (λ l m. refl) in
    ap (option_and_then as_reference) (sym found) ∙ sym seen
