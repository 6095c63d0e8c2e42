use Rattle.std.proofs.Common.{◌++◌, ◌∷◌, [], arith, refl, subst}
use Rattle.jlr_machine.specs.Objects.{◌∈◌}
use Rattle.jlr_links.specs.Lists.{list_at}
use Rattle.jlr_cells.proofs.Queues.{length_seen, list_there, members_seen, seen_with, slot_count, whole_with}
use Rattle.jlr_cells.proofs.store.Store.push_member.Goals as goal

pub append-requires-clause-list : goal.append-requires-clause-list
append-requires-clause-list c = list_there c.self.inside.cells c.self.inside.queues.lists c.self.inside.queues.slots c.self.inside.kinds
    c.self.inside.links c.self.invariant c.args.self.now c.self.view_is c.args.queue c.number.result c.number.ensures c.requires.queue

pub append-requires-clause-slot : goal.append-requires-clause-slot
append-requires-clause-slot c = omega (
  arith,
  c.requires.within,
  length_seen c.self.inside.cells c.self.inside.queues.lists c.args.self.now c.self.view_is,
  slot_count c.self.inside.cells c.self.inside.queues.lists c.self.inside.queues.slots c.self.inside.kinds c.self.inside.links
      c.self.invariant,
)

pub append-requires-clause-apart : goal.append-requires-clause-apart
append-requires-clause-apart c = λ k h. c.requires.apart k
    (subst (λ l. c.args.member ∈ l) (members_seen c.self.inside.cells c.self.inside.queues.lists c.self.inside.queues.slots
    c.self.inside.kinds c.self.inside.links c.self.invariant c.args.self.now c.self.view_is k k refl) h)

pub invariant_of-self : goal.invariant_of-self
invariant_of-self c =
    whole_with c.self.inside.cells c.self.inside.queues.lists c.self.inside.queues.slots c.self.inside.kinds c.self.inside.links
    c.self.invariant c.args.self.now c.self.view_is c.args.queue c.number.result
    (list_at c.self.inside.queues.lists c.number.result ++ c.args.member ∷ []) c.append.new.self.lists c.append.new.self.slots
    c.number.ensures c.requires.queue c.append.ensures.lists c.append.ensures.slots

pub returns : goal.returns
returns c = seen_with c.self.inside.cells c.self.inside.queues.lists c.self.inside.queues.slots c.self.inside.kinds c.self.inside.links
    c.self.invariant c.args.self.now c.self.view_is c.args.queue c.number.result (λ members. members ++ c.args.member ∷ [])
    c.append.new.self.lists c.number.ensures c.requires.queue c.append.ensures.lists
