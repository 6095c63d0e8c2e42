use Rattle.std.proofs.Common.{◌≡◌, ◌∙◌, true, arith}
use Rattle.std.proofs.lemmas.Grind.{common_steps}
use Rattle.jlr_machine.specs.Objects.{at, some_and}
use Rattle.jlr_machine.specs.Refusals.{is_queue}
use Rattle.jlr_cells.proofs.Queues.{first_seen, list_there}
use Rattle.jlr_cells.proofs.store.Store.first_member.Goals as goal

pub front-requires : goal.front-requires
front-requires c =
    let queue : some_and is_queue (at c.args.self.now c.args.queue) ≡ true =
    grind (arith, common_steps, c.is_queue.ensures, c.if-not-is_queue.false) in
    list_there c.self.inside.cells c.self.inside.queues.lists c.self.inside.queues.slots c.self.inside.kinds c.self.inside.links
    c.self.invariant c.args.self.now c.self.view_is c.args.queue c.number.result c.number.ensures queue

pub returns : goal.returns
returns c = c.front.ensures ∙ first_seen c.self.inside.cells c.self.inside.queues.lists c.self.inside.queues.slots c.self.inside.kinds
    c.self.inside.links c.self.invariant c.args.self.now c.self.view_is c.args.queue c.number.result c.number.ensures
