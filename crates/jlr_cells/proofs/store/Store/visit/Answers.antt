use Rattle.std.proofs.Common.{◌∙◌, ◌∷◌, [], arith, refl, sym, ap}
use Rattle.std.specs.Prelude.{slice_index_or}
use Rattle.jlr_machine.specs.Objects.{at, some_and}
use Rattle.jlr_machine.specs.Edges.{edges_from}
use Rattle.jlr_machine.specs.Edges.Chain.{Strong}
use Rattle.jlr_machine.specs.Refusals.{is_record}
use Rattle.jlr_cells.specs.Contents.{objects_in}
use Rattle.jlr_cells.specs.Links.{linked}
use Rattle.jlr_cells.proofs.LinkLists.{plain_edges_at, record_is_plain}
use Rattle.jlr_cells.proofs.Queues.{holds_at, link_count, plain_at, within}
use Rattle.jlr_cells.proofs.store.Store.visit.Goals as goal

pub of-requires : goal.of-requires
of-requires c =
    omega (
      arith,
      within c.self.inside.cells c.self.inside.queues.lists c.args.self.now c.self.view_is c.args.slot c.args.slot refl c.requires.object,
      link_count c.self.inside.cells c.self.inside.queues.lists c.self.inside.queues.slots c.self.inside.kinds c.self.inside.links
          c.self.invariant,
    )

pub returns-then-finds_record-clause-edges : goal.returns-then-finds_record-clause-edges
returns-then-finds_record-clause-edges c =
    let cells = c.self.inside.cells in
    let s = c.args.slot in
    let plain = holds_at cells c.self.inside.queues.lists c.args.self.now c.self.view_is (some_and is_record) s s (λ l m. refl) refl
    (sym c.finds_record.ensures ∙ c.if-finds_record.true) in
    let same = plain_at cells c.self.inside.queues.lists c.args.self.now c.self.view_is s
    (record_is_plain (at (objects_in cells) s) plain) in
    ap (λ o. edges_from Strong (o ∷ []) 0) same
    ∙ plain_edges_at cells s [] plain
    ∙ ap (λ l. linked (slice_index_or l s [])) (sym c.self.invariant.kept.by_links)
    ∙ c.of.ensures
