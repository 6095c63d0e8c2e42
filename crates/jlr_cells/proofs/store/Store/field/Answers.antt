use Rattle.std.proofs.Common.{◌≡◌, ◌∙◌, refl, sym, ap, arith}
use Rattle.std.specs.Prelude.{is_some}
use Rattle.std.proofs.lemmas.Grind.{common_steps}
use Rattle.jlr_machine.specs.Objects.{at}
use Rattle.jlr_cells.specs.Contents.{field_in, field_at, objects_in}
use Rattle.jlr_cells.proofs.Queues.{seen_as}
use Rattle.jlr_cells.proofs.store.Store.field.Goals as goal

pub unwrap-requires : goal.unwrap-requires
unwrap-requires c =
    let bare : c.field_of.result ≡ field_in (at (objects_in c.self.inside.cells) c.args.slot) c.args.field = grind (arith, common_steps) in
    let seen : c.field_of.result ≡ field_at c.args.self.now c.args.slot c.args.field = bare
    ∙ sym (seen_as c.self.inside.cells c.self.inside.queues.lists c.args.self.now c.self.view_is (λ o. field_in o c.args.field)
    c.args.slot (λ l m. refl)) in
    ap is_some seen ∙ c.requires

pub returns : goal.returns
returns c =
    let bare : c.field_of.result ≡ field_in (at (objects_in c.self.inside.cells) c.args.slot) c.args.field = grind (arith, common_steps) in
    let seen : field_at c.args.self.now c.args.slot c.args.field ≡ c.field_of.result =
    seen_as c.self.inside.cells c.self.inside.queues.lists c.args.self.now c.self.view_is (λ o. field_in o c.args.field) c.args.slot
    (λ l m. refl) ∙ sym bare in
    grind (arith, common_steps, seen)
