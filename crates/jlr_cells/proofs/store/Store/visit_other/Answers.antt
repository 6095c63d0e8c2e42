use Rattle.std.proofs.Common.{◌≡◌, ◌∙◌, ◌++◌, ◌<◌, arith, false, length, refl, sym, ap, true}
use Rattle.std.specs.Prelude.{option_and_then, option_to_list}
use Rattle.jlr_machine.specs.Objects.{at, some_and}
use Rattle.jlr_machine.specs.Refusals.{is_plain}
use Rattle.jlr_cells.specs.Contents.{is_array, members_in, next_in, object_in, objects_in}
use Rattle.jlr_cells.specs.Visits.{elements_of}
use Rattle.jlr_cells.proofs.LinkLists.{array_edges, array_is_plain, no_plain, other_edges, other_has_none}
use Rattle.jlr_cells.proofs.Slots.{at-read}
use Rattle.jlr_cells.proofs.Queues.{holds_at, holds_in, plain_at, seen_in, within}
use Rattle.jlr_cells.proofs.store.Store.visit_other.Goals as goal

pub index-requires : goal.index-requires
index-requires c = omega (
  arith,
  within c.self.inside.cells c.self.inside.queues.lists c.args.self.now c.self.view_is _ _
      c.number-place.ensures c.requires.object,
)

pub index-requires-2 : goal.index-requires-2
index-requires-2 c = omega (
  arith,
  within c.self.inside.cells c.self.inside.queues.lists c.args.self.now c.self.view_is _ _
      c.number-place.ensures c.requires.object,
)

pub elements-requires : goal.elements-requires
elements-requires c =
    let below : c.number-place.result < length c.self.inside.cells =
    within c.self.inside.cells c.self.inside.queues.lists c.args.self.now c.self.view_is _ _ c.number-place.ensures c.requires.object in
    holds_in c.self.inside.cells c.self.inside.queues.lists c.args.self.now c.self.view_is (some_and is_array) _ _ c.index.result.now
    (λ l m. refl) c.number-place.ensures (sym c.is_array.ensures ∙ c.if-is_array.true) below c.index.ensures

pub returns-then-is_array-clause-edges : goal.returns-then-is_array-clause-edges
returns-then-is_array-clause-edges c =
    let cells = c.self.inside.cells in
    let o = at c.args.self.now c.args.slot in
    let array : some_and is_array o ≡ true = sym c.is_array.ensures ∙ c.if-is_array.true in
    let below : c.number-place.result < length cells =
    within c.self.inside.cells c.self.inside.queues.lists c.args.self.now c.self.view_is _ _ c.number-place.ensures c.requires.object in
    let plain = holds_at c.self.inside.cells c.self.inside.queues.lists c.args.self.now c.self.view_is (some_and is_plain) c.args.slot
    c.args.slot (λ l m. refl) refl (array_is_plain o array) in
    let same : o ≡ object_in c.index.result.now = plain_at c.self.inside.cells c.self.inside.queues.lists c.args.self.now c.self.view_is
    c.args.slot plain ∙ ap (at (objects_in cells)) (sym c.number-place.ensures)
    ∙ at-read cells c.number-place.result c.index.result.now below c.index.ensures in
    array_edges o c.elements.result.now (same ∙ c.elements.ensures)

pub returns-clause-edges : goal.returns-clause-edges
returns-clause-edges c =
    let o = at c.args.self.now c.args.slot in
    let other : some_and is_plain o ≡ false = no_plain o c.requires.other (sym c.is_array.ensures ∙ c.if-is_array.false) in
    let below : c.number-place.result < length c.self.inside.cells =
    within c.self.inside.cells c.self.inside.queues.lists c.args.self.now c.self.view_is _ _ c.number-place.ensures c.requires.object in
    let next : next_in o ≡ c.next.result = seen_in c.self.inside.cells c.self.inside.queues.lists c.args.self.now c.self.view_is next_in
    c.args.slot c.number-place.result c.index-2.result.now (λ l m. refl) c.number-place.ensures below c.index-2.ensures
    ∙ sym c.next.ensures in
    other_edges o other ∙ ap (λ n. option_to_list n ++ members_in o) next

pub returns-then-is_array-clause-array : goal.returns-then-is_array-clause-array
returns-then-is_array-clause-array c =
    let cells = c.self.inside.cells in
    let o = at c.args.self.now c.args.slot in
    let array : some_and is_array o ≡ true = sym c.is_array.ensures ∙ c.if-is_array.true in
    let below : c.number-place.result < length cells =
    within c.self.inside.cells c.self.inside.queues.lists c.args.self.now c.self.view_is _ _ c.number-place.ensures c.requires.object in
    let plain = holds_at c.self.inside.cells c.self.inside.queues.lists c.args.self.now c.self.view_is (some_and is_plain) c.args.slot
    c.args.slot (λ l m. refl) refl (array_is_plain o array) in
    let same : o ≡ object_in c.index.result.now = plain_at c.self.inside.cells c.self.inside.queues.lists c.args.self.now c.self.view_is
    c.args.slot plain ∙ ap (at (objects_in cells)) (sym c.number-place.ensures)
    ∙ at-read cells c.number-place.result c.index.result.now below c.index.ensures in
    sym (ap (option_and_then elements_of) (same ∙ c.elements.ensures))

pub returns-clause-array : goal.returns-clause-array
returns-clause-array c = sym (other_has_none (at c.args.self.now c.args.slot) (sym c.is_array.ensures ∙ c.if-is_array.false))
