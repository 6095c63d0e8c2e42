use Rattle.std.proofs.Common.{◌≡◌, ◌∙◌, refl, sym, ap, arith}
use Rattle.std.specs.Prelude.{is_some}
use Rattle.std.proofs.lemmas.Grind.{common_steps}
use Rattle.jlr_machine.specs.Objects.{at}
use Rattle.jlr_cells.specs.Contents.{field_in, objects_in}
use Rattle.jlr_cells.proofs.Queues.{seen_as}
use Rattle.jlr_cells.proofs.store.Store.has_field.Goals as goal

pub returns : goal.returns
returns c =
    let bare : c.is_some.result ≡ is_some (field_in (at (objects_in c.self.inside.cells) c.args.slot) c.args.field) =
    grind (arith, common_steps) in
    bare ∙ sym (ap is_some (seen_as c.self.inside.cells c.self.inside.queues.lists c.args.self.now c.self.view_is
    (λ o. field_in o c.args.field) c.args.slot (λ l m. refl)))
