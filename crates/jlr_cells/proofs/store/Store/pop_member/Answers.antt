use Rattle.std.proofs.Common.{◌∙◌, drop}
use Rattle.jlr_links.specs.Lists.{list_at}
use Rattle.jlr_cells.proofs.Queues.{first_seen, list_there, seen_with, whole_with}
use Rattle.jlr_cells.proofs.store.Store.pop_member.Goals as goal

pub take_front-requires : goal.take_front-requires
take_front-requires c = list_there c.self.inside.cells c.self.inside.queues.lists c.self.inside.queues.slots c.self.inside.kinds
    c.self.inside.links c.self.invariant c.args.self.now c.self.view_is c.args.queue c.number.result c.number.ensures c.requires

pub invariant_of-self : goal.invariant_of-self
invariant_of-self c =
    whole_with c.self.inside.cells c.self.inside.queues.lists c.self.inside.queues.slots c.self.inside.kinds c.self.inside.links
    c.self.invariant c.args.self.now c.self.view_is c.args.queue c.number.result
    (drop 1 (list_at c.self.inside.queues.lists c.number.result)) c.take_front.new.self.lists c.take_front.new.self.slots
    c.number.ensures c.requires c.take_front.ensures.lists c.take_front.ensures.slots

pub returns-clause-front : goal.returns-clause-front
returns-clause-front c = c.take_front.ensures.front
    ∙ first_seen c.self.inside.cells c.self.inside.queues.lists c.self.inside.queues.slots c.self.inside.kinds c.self.inside.links
    c.self.invariant c.args.self.now c.self.view_is c.args.queue c.number.result c.number.ensures

pub returns-clause-popped : goal.returns-clause-popped
returns-clause-popped c = seen_with c.self.inside.cells c.self.inside.queues.lists c.self.inside.queues.slots c.self.inside.kinds
    c.self.inside.links c.self.invariant c.args.self.now c.self.view_is c.args.queue c.number.result (drop 1) c.take_front.new.self.lists
    c.number.ensures c.requires c.take_front.ensures.lists
