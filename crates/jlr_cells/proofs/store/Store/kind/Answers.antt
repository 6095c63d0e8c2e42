use Rattle.std.proofs.Common.{◌∙◌, ap, refl, sym}
use Rattle.std.specs.Prelude.{is_some, option_map}
use Rattle.jlr_machine.specs.Objects.{at}
use Rattle.jlr_cells.specs.Contents.{kind_of}
use Rattle.jlr_cells.proofs.ByKind.{has_kind, kind_seen}
use Rattle.jlr_cells.proofs.Queues.{seen_as}
use Rattle.jlr_cells.proofs.store.Store.kind.Goals as goal

pub returns-clause-kind : goal.returns-clause-kind
returns-clause-kind c =
    c.get.ensures ∙ kind_seen c.self.inside.cells c.self.inside.kinds c.args.slot c.self.invariant.kept.by_kind
    ∙ sym (seen_as c.self.inside.cells c.self.inside.queues.lists c.args.self.now c.self.view_is (option_map kind_of) c.args.slot
    (λ l m. refl))

pub returns-clause-object : goal.returns-clause-object
returns-clause-object c =
    ap is_some (c.get.ensures ∙ kind_seen c.self.inside.cells c.self.inside.kinds c.args.slot c.self.invariant.kept.by_kind
    ∙ sym (seen_as c.self.inside.cells c.self.inside.queues.lists c.args.self.now c.self.view_is (option_map kind_of) c.args.slot
    (λ l m. refl)))
    ∙ has_kind (at c.args.self.now c.args.slot)
