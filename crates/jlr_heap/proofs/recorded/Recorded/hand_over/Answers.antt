use Rattle.std.proofs.Common.{subst}
use Rattle.jlr_machine.specs.declared.ask.Ask.TheVariants.{HandOver}
use Rattle.jlr_event.specs.declared.event.Event.TheVariants.{Ask as Asks}
use Rattle.jlr_event.specs.declared.event.Reply.TheVariants.{Answered}
use Rattle.jlr_book.specs.Rules.{BookSteps}
use Rattle.jlr_heap.proofs.Handing.{less_handed}
use Rattle.jlr_heap.proofs.recorded.Recorded.hand_over.Goals as goal

pub returns-in-Handed-clause-less : goal.returns-in-Handed-clause-less
returns-in-Handed-clause-less g c = λ _.
    let seat = c.handler-seat.result in
    let old = c.args.self.now in
    let s = c.step-answer in
    let steps = subst (λ a. BookSteps seat old (Asks HandOver) (Answered a s.result.1) s.new.self) c.in-Handed.is
    (subst (λ e. BookSteps seat old e (Answered s.result.0 s.result.1) s.new.self) c.ask.ensures s.ensures.steps) in
    less_handed seat old s.new.self c.in-Handed.field-0 s.result.1 s.ensures.before steps c.requires
