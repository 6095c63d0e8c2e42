use Rattle.std.proofs.Common.{◌<◌, ◌∙◌, ap, sym, length, arith, set}
use Rattle.jlr_sets.specs.SlotSets.{is_in}
use Rattle.jlr_cells.specs.Links.{four_nulls, no_links, rows}
use Rattle.jlr_cells.proofs.Rows.{cleared_both, cleared_near, long}
use Rattle.jlr_cells.proofs.columns.Columns.clear.Goals as goal

pub index_mut-requires : goal.index_mut-requires
index_mut-requires c = omega (
  arith,
  c.requires,
  c.number-place.ensures,
  long c.self.inside.near c.self.inside.far c.self.inside.wide c.self.invariant c.args.self.now c.self.view_is,
)

pub contains-requires : goal.contains-requires
contains-requires c = omega (
  arith,
  c.requires,
  long c.self.inside.near c.self.inside.far c.self.inside.wide c.self.invariant
      c.args.self.now c.self.view_is,
  c.self.invariant.places,
)

pub returns-then-contains : goal.returns-then-contains
returns-then-contains c =
    let near = c.self.inside.near in
    let far = c.self.inside.far in
    let n = c.number-place.result in
    ap (λ r. rows (set near n r) (set far n c.none-then-contains.result)) c.none.ensures
    ∙ ap (λ r. rows (set near n four_nulls) (set far n r)) c.none-then-contains.ensures
    ∙ cleared_both c.self.inside.near c.self.inside.far c.self.inside.wide c.self.invariant c.args.self.now c.self.view_is n
    ∙ ap (λ s. set c.args.self.now s no_links) c.number-place.ensures

pub returns-else-contains : goal.returns-else-contains
returns-else-contains c =
    let near = c.self.inside.near in
    let n = c.number-place.result in
    let below : n < length near = omega (
      arith,
      c.requires,
      c.number-place.ensures,
      long c.self.inside.near c.self.inside.far c.self.inside.wide c.self.invariant c.args.self.now c.self.view_is,
    ) in
    ap (λ r. rows (set near n r) c.self.inside.far) c.none.ensures
    ∙ cleared_near c.self.inside.near c.self.inside.far c.self.inside.wide c.self.invariant c.args.self.now c.self.view_is n below
    (ap (is_in c.self.inside.wide) c.number-place.ensures ∙ sym c.contains.ensures ∙ c.if-contains.false)
    ∙ ap (λ s. set c.args.self.now s no_links) c.number-place.ensures
