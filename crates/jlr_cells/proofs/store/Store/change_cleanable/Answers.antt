use Rattle.std.proofs.Common.{◌<◌, arith, length, refl}
use Rattle.jlr_machine.specs.Objects.{some_and, with_cleanable}
use Rattle.jlr_machine.specs.Refusals.{is_cleanable}
use Rattle.jlr_cells.specs.Changes.{altered_cleanable}
use Rattle.jlr_cells.proofs.Slots.{object_of_cleanable}
use Rattle.jlr_cells.proofs.ByKind.{kept_cleanable}
use Rattle.jlr_cells.proofs.Queues.{cleanable_leaves, changed_at, holds_in, within}
use Rattle.jlr_cells.proofs.store.Store.change_cleanable.Goals as goal

pub index_mut-cell-requires : goal.index_mut-cell-requires
index_mut-cell-requires c = omega (
  arith,
  within c.self.inside.cells c.self.inside.queues.lists c.args.self.now c.self.view_is _ _
      c.number.ensures (object_of_cleanable _ c.requires),
)

pub change_cleanable-requires : goal.change_cleanable-requires
change_cleanable-requires c =
    let below : c.number.result < length c.self.inside.cells =
    within c.self.inside.cells c.self.inside.queues.lists c.args.self.now c.self.view_is _ _ c.number.ensures
    (object_of_cleanable _ c.requires) in
    holds_in c.self.inside.cells c.self.inside.queues.lists c.args.self.now c.self.view_is (some_and is_cleanable) _ _
    c.index_mut-cell.result.now (λ l m. refl) c.number.ensures c.requires below c.index_mut-cell.ensures.value

pub invariant_of-self : goal.invariant_of-self
invariant_of-self c =
    record {
      kept = kept_cleanable _ _ _ _ c.index_mut-cell.result.now _ (altered_cleanable c.args.change)
          c.self.invariant.kept c.index_mut-cell.ensures.value
          c.change_cleanable.ensures.new c.change_cleanable.ensures.kind;
      members = c.self.invariant.members;
    }

pub returns : goal.returns
returns c =
    let below : c.number.result < length c.self.inside.cells =
    within c.self.inside.cells c.self.inside.queues.lists c.args.self.now c.self.view_is _ _ c.number.ensures
    (object_of_cleanable _ c.requires) in
    changed_at c.self.inside.cells c.self.inside.queues.lists c.args.self.now c.self.view_is _ _ c.index_mut-cell.result.now _
    (with_cleanable (altered_cleanable c.args.change)) c.number.ensures below c.index_mut-cell.ensures.value
    c.change_cleanable.ensures.new
    (cleanable_leaves (altered_cleanable c.args.change))
