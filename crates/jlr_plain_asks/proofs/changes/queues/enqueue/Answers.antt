use Rattle.std.proofs.Common.{ap, ◌∙◌}
use Rattle.jlr_machine.specs.declared.machine.Machine.{Machine}
use Rattle.jlr_machine.specs.Lookups.{with_object}
use Rattle.jlr_plain_asks.specs.Changes.{change_of}
use Rattle.jlr_plain_asks.specs.declared.changes.objects.Change.TheVariants.{Unrefer, Enqueue}
use Rattle.jlr_plain_asks.proofs.Orders.{enqueued_by}
use Rattle.jlr_plain_asks.proofs.changes.queues.enqueue.Goals as goal

pub returns-clause-ok : goal.returns-clause-ok
returns-clause-ok c =
    c.change_in-3.ensures
    ∙ ap {A = Machine} {B = Machine} (λ n. with_object n c.args.slot (change_of Enqueue)) c.change_in-2.ensures
    ∙ ap {A = Machine} {B = Machine} (λ n. with_object (with_object n c.args.slot (change_of Unrefer)) c.args.slot (change_of Enqueue))
    c.in_ok-append.ensures.ok
    ∙ enqueued_by c.args.machine.now c.args.slot c.in-Some.queue c.in-Some.ensures
