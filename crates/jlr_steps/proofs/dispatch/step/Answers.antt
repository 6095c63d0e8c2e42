use Rattle.std.proofs.Common.{◌≡◌, ap, subst, sym, ◌∙◌}
use Rattle.jlr_event.specs.declared.event.Event.{Event}
use Rattle.jlr_event.specs.declared.event.Event.TheVariants.{Ask as Asks}
use Rattle.jlr_event.specs.Events.{answer_in, resource_of_reply}
use Rattle.jlr_steps.specs.Dispatch.{StepsState}
use Rattle.jlr_steps.proofs.dispatch.step.Goals as goal

pub returns-in-Ask-clause-rest : goal.returns-in-Ask-clause-rest
returns-in-Ask-clause-rest g c =
    let reply = c.step_ask.result in
    let is : Asks c.get.result.now ≡ c.args.event = ap Asks c.get.ensures.ask ∙ sym c.in-Ask.is in
    subst
    (λ (event : Event g.row.R.Denot).
    StepsState c.args.state.now event (answer_in reply) c.step_ask.new.choice.chosen (resource_of_reply reply)
    c.step_ask.new.state)
    is c.step_ask.ensures.rest
