use Rattle.std.proofs.Common.{◌<◌, ◌∙◌, arith, length, refl, sym}
use Rattle.std.specs.Prelude.{is_some}
use Rattle.jlr_types.specs.declared.FieldValue.TheVariants.{Ref}
use Rattle.jlr_machine.specs.Objects.{some_and, with_field}
use Rattle.jlr_machine.specs.Refusals.{is_record}
use Rattle.jlr_cells.specs.Contents.{field_in}
use Rattle.jlr_cells.proofs.Slots.{object_of_field}
use Rattle.jlr_cells.proofs.ByKind.{kept_changed}
use Rattle.jlr_cells.proofs.Queues.{changed_at, field_leaves, holds_in, length_seen, seen_in, within}
use Rattle.jlr_cells.proofs.store.Store.set_element.Goals as goal

pub index_mut-cell-requires : goal.index_mut-cell-requires
index_mut-cell-requires c = omega (
  arith,
  within c.self.inside.cells c.self.inside.queues.lists c.args.self.now c.self.view_is _ _
      c.number.ensures (object_of_field _ c.args.place c.requires.field),
)

pub set_element-requires-clause-there : goal.set_element-requires-clause-there
set_element-requires-clause-there c =
    let below : c.number.result < length c.self.inside.cells =
    within c.self.inside.cells c.self.inside.queues.lists c.args.self.now c.self.view_is _ _ c.number.ensures
    (object_of_field _ c.args.place c.requires.field) in
    holds_in c.self.inside.cells c.self.inside.queues.lists c.args.self.now c.self.view_is (λ o. is_some (field_in o c.args.place)) _ _
    c.index_mut-cell.result.now (λ l m. refl) c.number.ensures c.requires.field below c.index_mut-cell.ensures.value

pub set_element-requires-clause-array : goal.set_element-requires-clause-array
set_element-requires-clause-array c =
    let below : c.number.result < length c.self.inside.cells =
    within c.self.inside.cells c.self.inside.queues.lists c.args.self.now c.self.view_is _ _ c.number.ensures
    (object_of_field _ c.args.place c.requires.field) in
    sym (seen_in c.self.inside.cells c.self.inside.queues.lists c.args.self.now c.self.view_is (some_and is_record) c.args.slot
    c.number.result c.index_mut-cell.result.now (λ l m. refl) c.number.ensures below c.index_mut-cell.ensures.value) ∙ c.requires.array

pub set_element-requires-clause-few : goal.set_element-requires-clause-few
set_element-requires-clause-few c = λ s e. (let below = c.requires.within s e in
    omega (
      arith,
      below,
      length_seen c.self.inside.cells c.self.inside.queues.lists c.args.self.now c.self.view_is,
      c.self.invariant.kept.small,
    ))

pub invariant_of-self : goal.invariant_of-self
invariant_of-self c =
    record {
      kept = kept_changed _ _ _ _ c.index_mut-cell.result.now _ (with_field c.args.place (Ref c.args.target)) c.self.invariant.kept
          c.index_mut-cell.ensures.value c.set_element.ensures.new c.set_element.ensures.kind c.set_element.ensures.links;
      members = c.self.invariant.members;
    }

pub returns-clause-new : goal.returns-clause-new
returns-clause-new c =
    let below : c.number.result < length c.self.inside.cells =
    within c.self.inside.cells c.self.inside.queues.lists c.args.self.now c.self.view_is _ _ c.number.ensures
    (object_of_field _ c.args.place c.requires.field) in
    changed_at c.self.inside.cells c.self.inside.queues.lists c.args.self.now c.self.view_is _ _ c.index_mut-cell.result.now _
    (with_field c.args.place (Ref c.args.target)) c.number.ensures below c.index_mut-cell.ensures.value c.set_element.ensures.new
    (field_leaves c.args.place (Ref c.args.target))

pub returns-clause-old : goal.returns-clause-old
returns-clause-old c =
    let below : c.number.result < length c.self.inside.cells =
    within c.self.inside.cells c.self.inside.queues.lists c.args.self.now c.self.view_is _ _ c.number.ensures
    (object_of_field _ c.args.place c.requires.field) in
    seen_in c.self.inside.cells c.self.inside.queues.lists c.args.self.now c.self.view_is (λ o. field_in o c.args.place) c.args.slot
    c.number.result c.index_mut-cell.result.now (λ l m. refl) c.number.ensures below c.index_mut-cell.ensures.value
    ∙ c.set_element.ensures.old
