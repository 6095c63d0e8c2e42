use Rattle.std.proofs.Common.{◌∙◌, sym, subst}
use Rattle.jlr_machine.specs.Objects.{◌∈◌}
use Rattle.jlr_cells.proofs.Queues.{list_within, members_seen}
use Rattle.jlr_cells.proofs.store.Store.next_member.Goals as goal

pub next-requires-clause-list : goal.next-requires-clause-list
next-requires-clause-list c =
    list_within c.self.inside.queues.lists c.number.result c.args.member
    (subst (λ l. c.args.member ∈ l) (sym (members_seen c.self.inside.cells c.self.inside.queues.lists c.self.inside.queues.slots
    c.self.inside.kinds c.self.inside.links c.self.invariant c.args.self.now c.self.view_is c.args.queue c.number.result
    c.number.ensures)) c.requires)

pub next-requires-clause-member : goal.next-requires-clause-member
next-requires-clause-member c = subst (λ l. c.args.member ∈ l)
    (sym (members_seen c.self.inside.cells c.self.inside.queues.lists c.self.inside.queues.slots c.self.inside.kinds c.self.inside.links
    c.self.invariant c.args.self.now c.self.view_is c.args.queue c.number.result c.number.ensures)) c.requires

pub returns : goal.returns
returns c = λ before after e. c.next.ensures before after
    (members_seen c.self.inside.cells c.self.inside.queues.lists c.self.inside.queues.slots c.self.inside.kinds c.self.inside.links
    c.self.invariant c.args.self.now c.self.view_is c.args.queue c.number.result c.number.ensures ∙ e)
