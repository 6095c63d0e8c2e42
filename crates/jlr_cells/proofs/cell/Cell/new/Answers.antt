use Rattle.std.proofs.Common.{◌≤◌, ◌∙◌, ap, length, map, subst}
use Rattle.jlr_machine.specs.Lookups.{blank}
use Rattle.jlr_cells.specs.Links.{links_to}
use Rattle.jlr_cells.proofs.LinkLists.{blank_links}
use Rattle.jlr_cells.proofs.cell.Cell.new.Goals as goal

pub returns-in-Plain-clause-links : goal.returns-in-Plain-clause-links
returns-in-Plain-clause-links c =
    let few : length (map blank c.in-Plain.layout) ≤ 8 = subst (λ l. length l ≤ 8) c.blank.ensures.fields c.blank.ensures.few in
    ap links_to c.blank.ensures.fields ∙ blank_links c.in-Plain.layout few
