use Rattle.std.proofs.Common.{◌<◌, ◌∙◌, [], ap, arith, get_or, length, refl, set, sym}
use Rattle.std.specs.Prelude.{is_some}
use Rattle.jlr_machine.specs.Objects.{some_and, with_field}
use Rattle.jlr_machine.specs.Refusals.{is_record}
use Rattle.jlr_cells.specs.Contents.{field_in}
use Rattle.jlr_cells.proofs.Slots.{object_of_field}
use Rattle.jlr_cells.proofs.ByKind.{kept_field}
use Rattle.jlr_cells.proofs.Queues.{changed_at, field_leaves, holds_at, holds_in, length_seen, link_count, seen_in, set_target, within}
use Rattle.jlr_cells.proofs.store.Store.set_typed.Goals as goal

pub index_mut-cell-requires : goal.index_mut-cell-requires
index_mut-cell-requires c = omega (
  arith,
  within c.self.inside.cells c.self.inside.queues.lists c.args.self.now c.self.view_is _ _
      c.number-place.ensures (object_of_field _ c.args.field c.requires.field),
)

pub set_field-old-requires-clause-record : goal.set_field-old-requires-clause-record
set_field-old-requires-clause-record c =
    let below : c.number-place.result < length c.self.inside.cells =
    within c.self.inside.cells c.self.inside.queues.lists c.args.self.now c.self.view_is _ _ c.number-place.ensures
    (object_of_field _ c.args.field c.requires.field) in
    holds_in c.self.inside.cells c.self.inside.queues.lists c.args.self.now c.self.view_is (some_and is_record) _ _
    c.index_mut-cell.result.now (λ l m. refl) c.number-place.ensures c.requires.record below c.index_mut-cell.ensures.value

pub set_field-old-requires-clause-there : goal.set_field-old-requires-clause-there
set_field-old-requires-clause-there c =
    let below : c.number-place.result < length c.self.inside.cells =
    within c.self.inside.cells c.self.inside.queues.lists c.args.self.now c.self.view_is _ _ c.number-place.ensures
    (object_of_field _ c.args.field c.requires.field) in
    holds_in c.self.inside.cells c.self.inside.queues.lists c.args.self.now c.self.view_is (λ o. is_some (field_in o c.args.field)) _ _
    c.index_mut-cell.result.now (λ l m. refl) c.number-place.ensures c.requires.field below c.index_mut-cell.ensures.value

pub invariant_of-self : goal.invariant_of-self
invariant_of-self c =
    let holds = holds_at c.self.inside.cells c.self.inside.queues.lists c.args.self.now c.self.view_is
    (λ o. is_some (field_in o c.args.field)) _ _ (λ l m. refl) c.number-place.ensures c.requires.field in
    let typed = holds_at c.self.inside.cells c.self.inside.queues.lists c.args.self.now c.self.view_is (some_and is_record) _ _
    (λ l m. refl) c.number-place.ensures c.requires.record in
    record {
      kept = kept_field _ _ c.self.inside.links _ c.index_mut-cell.result.now _ c.args.field c.args.value _ c.self.invariant.kept holds
          typed c.index_mut-cell.ensures.value c.set_field-old.ensures.new c.set_field-old.ensures.kind
          (c.set.ensures
          ∙ ap (λ k. set c.self.inside.links k (set (get_or c.self.inside.links k []) c.args.field c.target_of-target.result))
          (sym c.number-place.ensures)
          ∙ ap (λ o. set c.self.inside.links c.number-place.result
          (set (get_or c.self.inside.links c.number-place.result []) c.args.field o)) c.target_of-target.ensures);
      members = c.self.invariant.members;
    }

pub returns-clause-new : goal.returns-clause-new
returns-clause-new c =
    let below : c.number-place.result < length c.self.inside.cells =
    within c.self.inside.cells c.self.inside.queues.lists c.args.self.now c.self.view_is _ _ c.number-place.ensures
    (object_of_field _ c.args.field c.requires.field) in
    changed_at c.self.inside.cells c.self.inside.queues.lists c.args.self.now c.self.view_is _ _ c.index_mut-cell.result.now _
    (with_field c.args.field c.args.value) c.number-place.ensures below c.index_mut-cell.ensures.value c.set_field-old.ensures.new
    (field_leaves c.args.field c.args.value)

pub returns-clause-old : goal.returns-clause-old
returns-clause-old c =
    let below : c.number-place.result < length c.self.inside.cells =
    within c.self.inside.cells c.self.inside.queues.lists c.args.self.now c.self.view_is _ _ c.number-place.ensures
    (object_of_field _ c.args.field c.requires.field) in
    seen_in c.self.inside.cells c.self.inside.queues.lists c.args.self.now c.self.view_is (λ o. field_in o c.args.field) c.args.slot
    c.number-place.result c.index_mut-cell.result.now (λ l m. refl) c.number-place.ensures below c.index_mut-cell.ensures.value
    ∙ c.set_field-old.ensures.old

pub set-requires-clause-slot : goal.set-requires-clause-slot
set-requires-clause-slot c = omega (
  arith,
  c.number-place.ensures,
  within c.self.inside.cells c.self.inside.queues.lists c.args.self.now c.self.view_is _ _ c.number-place.ensures
      (object_of_field _ c.args.field c.requires.field),
  link_count c.self.inside.cells c.self.inside.queues.lists c.self.inside.queues.slots c.self.inside.kinds c.self.inside.links
      c.self.invariant,
)

pub set-requires-clause-few : goal.set-requires-clause-few
set-requires-clause-few c = λ s e. (let below = c.requires.within s (set_target c.args.value s (sym c.target_of-target.ensures ∙ e)) in
    omega (
      arith,
      below,
      length_seen c.self.inside.cells c.self.inside.queues.lists c.args.self.now c.self.view_is,
      c.self.invariant.kept.small,
    ))
