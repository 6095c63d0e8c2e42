use Rattle.std.proofs.Common.{None, subst}
use Rattle.jlr_machine.specs.declared.ask.Ask.TheVariants.{Abandon}
use Rattle.jlr_event.specs.declared.event.Event.TheVariants.{Ask as Asks}
use Rattle.jlr_event.specs.declared.event.Reply.TheVariants.{Answered}
use Rattle.jlr_steps.specs.Steps.{IsStep}
use Rattle.jlr_book.proofs.Entering.{abandons}
use Rattle.jlr_book.proofs.cut.give_up.Goals as goal

pub returns-clause-step : goal.returns-clause-step
returns-clause-step g c =
    let did = c.answer in
    let chosen = did.new.choice.chosen in
    let reply = Answered did.result None in
    let a = abandons c.args.core.now did.new.self reply chosen did.ensures.step c.requires.stands c.requires.cycle in
    (chosen, subst (λ q. IsStep c.args.core.now (Asks Abandon) q chosen did.new.self) a.0 did.ensures.step)

pub returns-clause-machine : goal.returns-clause-machine
returns-clause-machine g c = (abandons c.args.core.now c.answer.new.self (Answered c.answer.result None) c.answer.new.choice.chosen
    c.answer.ensures.step c.requires.stands c.requires.cycle).1

pub returns-clause-stands : goal.returns-clause-stands
returns-clause-stands g c = (abandons c.args.core.now c.answer.new.self (Answered c.answer.result None) c.answer.new.choice.chosen
    c.answer.ensures.step c.requires.stands c.requires.cycle).2
