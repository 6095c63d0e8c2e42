use Rattle.std.proofs.Common.{◌<◌, arith, length, refl}
use Rattle.jlr_machine.specs.Objects.{some_and, with_reference}
use Rattle.jlr_machine.specs.Refusals.{is_reference}
use Rattle.jlr_cells.specs.Changes.{altered_reference}
use Rattle.jlr_cells.proofs.Slots.{object_of_reference}
use Rattle.jlr_cells.proofs.ByKind.{kept_reference}
use Rattle.jlr_cells.proofs.Queues.{reference_leaves, changed_at, holds_in, within}
use Rattle.jlr_cells.proofs.store.Store.change_reference.Goals as goal

pub index_mut-cell-requires : goal.index_mut-cell-requires
index_mut-cell-requires c = omega (
  arith,
  within c.self.inside.cells c.self.inside.queues.lists c.args.self.now c.self.view_is _ _
      c.number.ensures (object_of_reference _ c.requires),
)

pub change_reference-requires : goal.change_reference-requires
change_reference-requires c =
    let below : c.number.result < length c.self.inside.cells =
    within c.self.inside.cells c.self.inside.queues.lists c.args.self.now c.self.view_is _ _ c.number.ensures
    (object_of_reference _ c.requires) in
    holds_in c.self.inside.cells c.self.inside.queues.lists c.args.self.now c.self.view_is (some_and is_reference) _ _
    c.index_mut-cell.result.now (λ l m. refl) c.number.ensures c.requires below c.index_mut-cell.ensures.value

pub invariant_of-self : goal.invariant_of-self
invariant_of-self c =
    record {
      kept = kept_reference _ _ _ _ c.index_mut-cell.result.now _ (altered_reference c.args.change)
          c.self.invariant.kept c.index_mut-cell.ensures.value
          c.change_reference.ensures.new c.change_reference.ensures.kind;
      members = c.self.invariant.members;
    }

pub returns : goal.returns
returns c =
    let below : c.number.result < length c.self.inside.cells =
    within c.self.inside.cells c.self.inside.queues.lists c.args.self.now c.self.view_is _ _ c.number.ensures
    (object_of_reference _ c.requires) in
    changed_at c.self.inside.cells c.self.inside.queues.lists c.args.self.now c.self.view_is _ _ c.index_mut-cell.result.now _
    (with_reference (altered_reference c.args.change)) c.number.ensures below c.index_mut-cell.ensures.value
    c.change_reference.ensures.new
    (reference_leaves (altered_reference c.args.change))
