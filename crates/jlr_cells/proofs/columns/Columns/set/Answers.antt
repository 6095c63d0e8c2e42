use Rattle.std.proofs.Common.{◌≡◌, ◌<◌, ◌-◌, [], ◌∙◌, ap, length, arith, get_or, set}
use Rattle.std.proofs.lemmas.List.{get_or_read}
use Rattle.jlr_cells.proofs.Rows.{far_set, long, near_set}
use Rattle.jlr_cells.proofs.columns.Columns.set.Goals as goal

pub index_mut-links-requires : goal.index_mut-links-requires
index_mut-links-requires c = omega (
  arith,
  c.requires.slot,
  c.number-place.ensures,
  long c.self.inside.near c.self.inside.far c.self.inside.wide c.self.invariant c.args.self.now c.self.view_is,
)

pub index_mut-links-requires-2 : goal.index_mut-links-requires-2
index_mut-links-requires-2 c = omega (
  arith,
  c.requires.slot,
  c.number-place.ensures,
  long c.self.inside.near c.self.inside.far c.self.inside.wide c.self.invariant c.args.self.now c.self.view_is,
  c.self.invariant.as_many,
)

pub insert-requires : goal.insert-requires
insert-requires c = omega (
  arith,
  c.requires.slot,
  long c.self.inside.near c.self.inside.far c.self.inside.wide c.self.invariant c.args.self.now c.self.view_is,
  c.self.invariant.places,
)

pub returns-then-field-lt4 : goal.returns-then-field-lt4
returns-then-field-lt4 c =
    let near = c.self.inside.near in
    let n = c.number-place.result in
    let below : n < length near = omega (
      arith,
      c.requires.slot,
      c.number-place.ensures,
      long c.self.inside.near c.self.inside.far c.self.inside.wide c.self.invariant c.args.self.now c.self.view_is,
    ) in
    let read : c.index_mut-links.result.now ≡ get_or near n [] = get_or_read near n _ below c.index_mut-links.ensures.value [] in
    near_set c.self.inside.near c.self.inside.far c.self.inside.wide c.self.invariant c.args.self.now c.self.view_is n c.args.field
    c.args.target c.set.new.self below c.if-field-lt4.true (c.set.ensures ∙ ap (λ l. set l c.args.field c.args.target) read)
    ∙ ap (λ s. set c.args.self.now s (set (get_or c.args.self.now s []) c.args.field c.args.target)) c.number-place.ensures

pub returns : goal.returns
returns c =
    let far = c.self.inside.far in
    let n = c.number-place.result in
    let below : n < length c.self.inside.near = omega (
      arith,
      c.requires.slot,
      c.number-place.ensures,
      long c.self.inside.near c.self.inside.far c.self.inside.wide c.self.invariant c.args.self.now c.self.view_is,
    ) in
    let read : c.index_mut-links-2.result.now ≡ get_or far n [] =
    get_or_read far n _ (omega (arith, below, c.self.invariant.as_many)) c.index_mut-links-2.ensures.value [] in
    far_set c.self.inside.near c.self.inside.far c.self.inside.wide c.self.invariant c.args.self.now c.self.view_is n c.args.field
    c.args.target c.set-2.new.self below (omega (arith, c.if-field-lt4.false))
    (c.set-2.ensures ∙ ap (λ l. set l (c.args.field - 4) c.args.target) read)
    ∙ ap (λ s. set c.args.self.now s (set (get_or c.args.self.now s []) c.args.field c.args.target)) c.number-place.ensures
