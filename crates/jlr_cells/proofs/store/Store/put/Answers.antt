use Rattle.std.proofs.Common.{◌≡◌, ◌∙◌, ap, set, sym, subst, arith}
use Rattle.jlr_machine.specs.Objects.{Heap}
use Rattle.jlr_cells.specs.Contents.{object_in}
use Rattle.jlr_cells.specs.Keeping.{AreKept, AreOfQueues}
use Rattle.jlr_cells.specs.Links.{no_links}
use Rattle.jlr_cells.proofs.ByKind.{kept_put}
use Rattle.jlr_cells.proofs.Queues.{kind_count, kinds_set, length_seen, link_count, members_seen, written_object}
use Rattle.jlr_cells.proofs.store.Store.put.Goals as goal

pub set-requires : goal.set-requires
set-requires c = omega (
  arith,
  c.requires.within,
  c.number-place.ensures,
  length_seen c.self.inside.cells c.self.inside.queues.lists c.args.self.now c.self.view_is,
  kind_count c.self.inside.cells c.self.inside.queues.lists c.self.inside.queues.slots c.self.inside.kinds c.self.inside.links
      c.self.invariant,
)

pub clear-requires : goal.clear-requires
clear-requires c = omega (
  arith,
  c.requires.within,
  c.number-place.ensures,
  length_seen c.self.inside.cells c.self.inside.queues.lists c.args.self.now c.self.view_is,
  link_count c.self.inside.cells c.self.inside.queues.lists c.self.inside.queues.slots c.self.inside.kinds c.self.inside.links
      c.self.invariant,
)

pub index_mut-requires : goal.index_mut-requires
index_mut-requires c = omega (
  arith,
  c.requires.within,
  c.number-place.ensures,
  length_seen c.self.inside.cells c.self.inside.queues.lists c.args.self.now c.self.view_is,
)

pub invariant_of-self : goal.invariant_of-self
invariant_of-self c =
    let n = c.number-place.result in
    let cell = c.args.cell in
    let none = members_seen c.self.inside.cells c.self.inside.queues.lists c.self.inside.queues.slots c.self.inside.kinds
    c.self.inside.links c.self.invariant c.args.self.now c.self.view_is c.args.slot n c.number-place.ensures ∙ c.requires.members in
    let kinds : c.set.new.self ≡ set c.self.inside.kinds n c.kind.result = c.set.ensures
    ∙ ap (λ k. set c.self.inside.kinds k c.kind.result) (sym c.number-place.ensures) in
    record {
      kept = subst (λ k. AreKept (set c.self.inside.cells n cell) k c.clear.new.self) (sym kinds)
          (kept_put _ _ c.self.inside.links _ n _ _ c.self.invariant.kept c.kind.ensures
          (c.clear.ensures ∙ ap (λ k. set c.self.inside.links k no_links) (sym c.number-place.ensures)) c.requires.links);
      members = subst (λ k. AreOfQueues k c.self.inside.queues.lists c.self.inside.queues.slots) (sym kinds)
          (kinds_set _ _ _ n c.kind.result c.self.invariant.members none);
    }

pub returns : goal.returns
returns c =
    let n = c.number-place.result in
    let cell = c.args.cell in
    let none = members_seen c.self.inside.cells c.self.inside.queues.lists c.self.inside.queues.slots c.self.inside.kinds
    c.self.inside.links c.self.invariant c.args.self.now c.self.view_is c.args.slot n c.number-place.ensures ∙ c.requires.members in
    written_object c.self.inside.cells c.self.inside.queues.lists n cell none
    ∙ ap (λ (h : Heap). set h n (object_in cell)) c.self.view_is
    ∙ ap (λ s. set c.args.self.now s (object_in cell)) c.number-place.ensures
