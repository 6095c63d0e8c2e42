use Rattle.std.proofs.Common.{ap, subst}
use Rattle.jlr_machine.specs.declared.ask.Ask.TheVariants.{HandOver}
use Rattle.jlr_event.specs.declared.event.Event.{Event}
use Rattle.jlr_event.specs.declared.event.Event.TheVariants.{Ask as Asks}
use Rattle.jlr_event.specs.Events.{answer_in}
use Rattle.jlr_book.specs.Rules.{BookSteps}
use Rattle.jlr_prog.proofs.HandingOver.{handed_turn, never_marked}
use Rattle.jlr_prog.proofs.solo.solo.Solo.hand_over_at_length.Goals as goal

pub returns-in-Answered-clause-turn : goal.returns-in-Answered-clause-turn
returns-in-Answered-clause-turn g c =
    let old = c.args.self.now in
    let steps = subst (λ s. BookSteps s old (Asks HandOver) c.step.result c.step.new.self) c.handler-seat.ensures
    (subst (λ (e : Event g.row.R.Denot). BookSteps c.handler-seat.result old e c.step.result c.step.new.self) c.ask.ensures
    c.step.ensures.steps) in
    (handed_turn old c.step.new.self c.step.result c.in-Answered.answer c.turn_after.result (ap answer_in c.in-Answered.is)
    c.turn_after.ensures c.step.ensures.before c.requires steps).0

pub returns-in-Answered-clause-shorter : goal.returns-in-Answered-clause-shorter
returns-in-Answered-clause-shorter g c =
    let old = c.args.self.now in
    let steps = subst (λ s. BookSteps s old (Asks HandOver) c.step.result c.step.new.self) c.handler-seat.ensures
    (subst (λ (e : Event g.row.R.Denot). BookSteps c.handler-seat.result old e c.step.result c.step.new.self) c.ask.ensures
    c.step.ensures.steps) in
    (handed_turn old c.step.new.self c.step.result c.in-Answered.answer c.turn_after.result (ap answer_in c.in-Answered.is)
    c.turn_after.ensures c.step.ensures.before c.requires steps).1

pub returns-clause-turn : goal.returns-clause-turn
returns-clause-turn g c =
    let old = c.args.self.now in
    let steps = subst (λ s. BookSteps s old (Asks HandOver) c.step.result c.step.new.self) c.handler-seat.ensures
    (subst (λ (e : Event g.row.R.Denot). BookSteps c.handler-seat.result old e c.step.result c.step.new.self) c.ask.ensures
    c.step.ensures.steps) in
    never_marked old c.step.new.self c.step.result (ap answer_in c.in-Marked.is) c.step.ensures.before c.requires steps
