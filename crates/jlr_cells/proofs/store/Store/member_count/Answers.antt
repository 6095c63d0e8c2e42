use Rattle.std.proofs.Common.{◌≡◌, ◌∙◌, true, ap, arith, length}
use Rattle.std.proofs.lemmas.Grind.{common_steps}
use Rattle.jlr_machine.specs.Objects.{at, some_and}
use Rattle.jlr_machine.specs.Refusals.{is_queue}
use Rattle.jlr_cells.proofs.Queues.{members_seen, list_there}
use Rattle.jlr_cells.proofs.store.Store.member_count.Goals as goal

pub count-requires : goal.count-requires
count-requires c =
    let queue : some_and is_queue (at c.args.self.now c.args.queue) ≡ true =
    grind (arith, common_steps, c.is_queue.ensures, c.if-not-is_queue.false) in
    list_there c.self.inside.cells c.self.inside.queues.lists c.self.inside.queues.slots c.self.inside.kinds c.self.inside.links
    c.self.invariant c.args.self.now c.self.view_is c.args.queue c.number.result c.number.ensures queue

pub returns : goal.returns
returns c = c.count.ensures ∙ ap length (members_seen c.self.inside.cells c.self.inside.queues.lists c.self.inside.queues.slots
    c.self.inside.kinds c.self.inside.links c.self.invariant c.args.self.now c.self.view_is c.args.queue c.number.result c.number.ensures)
