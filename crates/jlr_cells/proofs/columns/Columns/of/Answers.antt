use Rattle.std.proofs.Common.{◌≡◌, ◌<◌, ◌++◌, [], ◌∙◌, ap, sym, length, arith, get_or}
use Rattle.std.proofs.lemmas.List.{get_or_default, get_or_read}
use Rattle.std.proofs.lemmas.List.Elements.{filter_map-append}
use Rattle.jlr_cells.specs.Links.{four_nulls, linked}
use Rattle.jlr_cells.proofs.Rows.{long, row_at}
use Rattle.jlr_cells.proofs.columns.Columns.of.Goals as goal

pub index-near-requires : goal.index-near-requires
index-near-requires c = omega (
  arith,
  c.requires,
  c.number-place.ensures,
  long c.self.inside.near c.self.inside.far c.self.inside.wide c.self.invariant c.args.self.now c.self.view_is,
)

pub contains-requires : goal.contains-requires
contains-requires c = omega (
  arith,
  c.requires,
  long c.self.inside.near c.self.inside.far c.self.inside.wide c.self.invariant
      c.args.self.now c.self.view_is,
  c.self.invariant.places,
)

-- nothing was written there: the four are null
pub returns-in-None : goal.returns-in-None
returns-in-None c =
    let near = c.self.inside.near in
    let far = c.self.inside.far in
    let s = c.args.slot in
    let n = c.number-place.result in
    let below : s < length near = omega (
      arith,
      c.requires,
      long c.self.inside.near c.self.inside.far c.self.inside.wide c.self.invariant c.args.self.now c.self.view_is,
    ) in
    let read : c.index-near.result.now ≡ get_or near n [] =
    get_or_read near n _ (omega (arith, below, c.number-place.ensures)) c.index-near.ensures [] in
    let blank : get_or far n [] ≡ four_nulls =
    get_or_default far n [] _ (omega (arith, below, c.number-place.ensures, c.self.invariant.as_many)) ∙ sym c.in-None.ensures in
    ap linked (row_at c.self.inside.near c.self.inside.far c.self.inside.wide c.self.invariant c.args.self.now c.self.view_is s below)
    ∙ filter_map-append _ (get_or near s []) (get_or far s [])
    ∙ ap (λ l. linked l ++ linked (get_or far s [])) (ap (λ k. get_or near k []) (sym c.number-place.ensures) ∙ sym read)
    ∙ ap (λ l. linked c.index-near.result.now ++ linked l) (ap (λ k. get_or far k []) (sym c.number-place.ensures) ∙ blank)

pub returns-then-contains : goal.returns-then-contains
returns-then-contains c =
    let near = c.self.inside.near in
    let far = c.self.inside.far in
    let s = c.args.slot in
    let n = c.number-place.result in
    let below : s < length near = omega (
      arith,
      c.requires,
      long c.self.inside.near c.self.inside.far c.self.inside.wide c.self.invariant c.args.self.now c.self.view_is,
    ) in
    let read : c.index-near.result.now ≡ get_or near n [] =
    get_or_read near n _ (omega (arith, below, c.number-place.ensures)) c.index-near.ensures [] in
    let read_far : c.in-Some.far.now ≡ get_or far n [] = c.in-Some.ensures
    ∙ get_or_default far n _ [] (omega (arith, below, c.number-place.ensures, c.self.invariant.as_many)) in
    ap linked (row_at c.self.inside.near c.self.inside.far c.self.inside.wide c.self.invariant c.args.self.now c.self.view_is s below)
    ∙ filter_map-append _ (get_or near s []) (get_or far s [])
    ∙ ap (λ l. linked l ++ linked (get_or far s [])) (ap (λ k. get_or near k []) (sym c.number-place.ensures) ∙ sym read)
    ∙ ap (λ l. linked c.index-near.result.now ++ linked l) (ap (λ k. get_or far k []) (sym c.number-place.ensures) ∙ sym read_far)

pub returns-else-contains : goal.returns-else-contains
returns-else-contains c =
    let near = c.self.inside.near in
    let far = c.self.inside.far in
    let s = c.args.slot in
    let n = c.number-place.result in
    let below : s < length near = omega (
      arith,
      c.requires,
      long c.self.inside.near c.self.inside.far c.self.inside.wide c.self.invariant c.args.self.now c.self.view_is,
    ) in
    let read : c.index-near.result.now ≡ get_or near n [] =
    get_or_read near n _ (omega (arith, below, c.number-place.ensures)) c.index-near.ensures [] in
    ap linked (row_at c.self.inside.near c.self.inside.far c.self.inside.wide c.self.invariant c.args.self.now c.self.view_is s below)
    ∙ filter_map-append _ (get_or near s []) (get_or far s [])
    ∙ ap (λ l. linked l ++ linked (get_or far s [])) (ap (λ k. get_or near k []) (sym c.number-place.ensures) ∙ sym read)
    ∙ ap (λ l. linked c.index-near.result.now ++ linked l) (c.self.invariant.nulls s below (sym c.contains.ensures ∙ c.if-contains.false))
