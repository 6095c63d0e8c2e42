use Rattle.std.proofs.Common.{◌∙◌, ap, arith, length, refl, sym}
use Rattle.std.proofs.lemmas.List.{length-map}
use Rattle.std.specs.Prelude.{option_map}
use Rattle.jlr_cells.specs.Contents.{kind_in, kind_of}
use Rattle.jlr_cells.proofs.ByKind.{kind_seen}
use Rattle.jlr_cells.proofs.Queues.{seen_as, within}
use Rattle.jlr_cells.proofs.store.Store.kind_here.Goals as goal

pub at-requires : goal.at-requires
at-requires c =
    omega (
      arith,
      within c.self.inside.cells c.self.inside.queues.lists c.args.self.now c.self.view_is c.args.slot c.args.slot refl c.requires,
      ap length c.self.invariant.kept.by_kind ∙ length-map c.self.inside.cells kind_in,
    )

pub returns : goal.returns
returns c =
    c.at.ensures ∙ kind_seen c.self.inside.cells c.self.inside.kinds c.args.slot c.self.invariant.kept.by_kind
    ∙ sym (seen_as c.self.inside.cells c.self.inside.queues.lists c.args.self.now c.self.view_is (option_map kind_of) c.args.slot
    (λ l m. refl))
