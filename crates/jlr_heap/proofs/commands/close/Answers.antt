use Rattle.std.proofs.Common.{None, subst}
use Rattle.jlr_machine.specs.declared.ask.Ask.TheVariants.{Close, Finish}
use Rattle.jlr_event.specs.declared.event.Event.TheVariants.{Ask as Asks}
use Rattle.jlr_event.specs.declared.event.Reply.TheVariants.{Answered}
use Rattle.jlr_event.specs.Events.{outcome_of}
use Rattle.jlr_heap.specs.Files.{finish_told}
use Rattle.jlr_heap.proofs.Telling.{closed_before, closed_now}
use Rattle.jlr_heap.proofs.commands.close.Goals as goal

pub returns-in-Ok : goal.returns-in-Ok
returns-in-Ok g c =
    let asking = g.K.Keeper.asking in
    let a = c.carry-answer in
    let first = subst (λ m. asking.asks c.args.keeper.now (Asks (Close m c.args.guard)) (Answered a.result.0 a.result.1) a.new.self)
    c.me.ensures
    (subst (λ e. asking.asks c.args.keeper.now e (Answered a.result.0 a.result.1) a.new.self) c.ask.ensures a.ensures.asked) in
    let second = subst (λ r. asking.asks a.new.self (Asks (Finish 0 c.in-Job.action (outcome_of c.finish-outcome.result)))
    (Answered (finish_told r) None) c.finished.new.keeper) c.in-Ok.is c.finished.ensures in
    closed_now asking c.args.keeper.now c.finished.new.keeper g.K.Held.Resource.handling c.args.guard a.result.0 a.result.1 a.new.self
    c.in-Job.action c.in-Job.work c.finish-outcome.result first c.in-Job.is c.finish-outcome.ensures second

pub returns-in-AlreadyDone : goal.returns-in-AlreadyDone
returns-in-AlreadyDone g c =
    let asking = g.K.Keeper.asking in
    let a = c.carry-answer in
    let first = subst (λ m. asking.asks c.args.keeper.now (Asks (Close m c.args.guard)) (Answered a.result.0 a.result.1) a.new.self)
    c.me.ensures
    (subst (λ e. asking.asks c.args.keeper.now e (Answered a.result.0 a.result.1) a.new.self) c.ask.ensures a.ensures.asked) in
    closed_before asking c.args.keeper.now a.new.self g.K.Held.Resource.handling c.args.guard a.result.0 a.result.1 first
    c.in-AlreadyDone.is
