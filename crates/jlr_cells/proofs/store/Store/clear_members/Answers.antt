use Rattle.std.proofs.Common.{◌<◌, ◌∙◌, [], arith, ap, length, set, subst, sym}
use Rattle.jlr_machine.specs.Objects.{Heap, change_at, with_members}
use Rattle.jlr_cells.specs.Contents.{objects_in, with_lists}
use Rattle.jlr_cells.specs.Keeping.{AreOfQueues}
use Rattle.jlr_cells.proofs.Queues.{changed_members, emptied, length_seen, list_count}
use Rattle.jlr_cells.proofs.store.Store.clear_members.Goals as goal

pub clear-requires : goal.clear-requires
clear-requires c = omega (
  arith,
  c.requires,
  c.number.ensures,
  length_seen c.self.inside.cells c.self.inside.queues.lists c.args.self.now c.self.view_is,
  list_count c.self.inside.cells c.self.inside.queues.lists c.self.inside.queues.slots c.self.inside.kinds c.self.inside.links
      c.self.invariant,
)

pub invariant_of-self : goal.invariant_of-self
invariant_of-self c =
    let lists = c.self.inside.queues.lists in
    let kinds = c.self.inside.kinds in
    let n = c.number.result in
    let below : n < length lists = omega (
      arith,
      c.requires,
      c.number.ensures,
      length_seen c.self.inside.cells c.self.inside.queues.lists c.args.self.now c.self.view_is,
      list_count c.self.inside.cells c.self.inside.queues.lists c.self.inside.queues.slots c.self.inside.kinds c.self.inside.links
          c.self.invariant,
    ) in
    record {
      kept = c.self.invariant.kept;
      members =
          subst (λ l. AreOfQueues kinds l c.clear.new.self.slots) (sym c.clear.ensures.lists)
          (subst (λ k. AreOfQueues kinds (set lists n []) k) (sym c.clear.ensures.slots)
          (emptied kinds lists c.self.inside.queues.slots n c.self.invariant.members below));
    }

pub returns : goal.returns
returns c =
    let cells = c.self.inside.cells in
    let lists = c.self.inside.queues.lists in
    let n = c.number.result in
    let below : n < length lists = omega (
      arith,
      c.requires,
      c.number.ensures,
      length_seen c.self.inside.cells c.self.inside.queues.lists c.args.self.now c.self.view_is,
      list_count c.self.inside.cells c.self.inside.queues.lists c.self.inside.queues.slots c.self.inside.kinds c.self.inside.links
          c.self.invariant,
    ) in
    ap (with_lists (objects_in cells)) c.clear.ensures.lists
    ∙ changed_members (objects_in cells) lists n (λ _. []) below
    ∙ ap (λ x. change_at (with_lists (objects_in cells) lists) x (with_members (λ _. []))) c.number.ensures
    ∙ ap (λ (h : Heap). change_at h c.args.queue (with_members (λ _. []))) c.self.view_is
