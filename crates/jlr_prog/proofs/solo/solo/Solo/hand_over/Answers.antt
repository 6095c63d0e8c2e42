use Rattle.std.proofs.Common.{None, subst, refl}
use Rattle.jlr_machine.specs.declared.ask.Answer.TheVariants.{Handed}
use Rattle.jlr_machine.specs.declared.ask.Ask.TheVariants.{HandOver}
use Rattle.jlr_event.specs.declared.event.Event.TheVariants.{Ask as Asks}
use Rattle.jlr_event.specs.declared.event.Reply.TheVariants.{Answered}
use Rattle.jlr_book.specs.Histories.{IsHistory}
use Rattle.jlr_book.specs.Rules.{BookSteps}
use Rattle.jlr_prog.specs.declared.solo.solo.Turn.TheVariants as turn
use Rattle.jlr_prog.proofs.HandingOver.{handed_turn}
use Rattle.jlr_prog.proofs.solo.solo.Solo.hand_over.Goals as goal

pub returns-in-Some-clause-turn : goal.returns-in-Some-clause-turn
returns-in-Some-clause-turn g c =
    let old = c.args.self.now in
    let new = c.try_hand_over.new.self in
    let reply = Answered (Handed c.in-Some.field-0) None in
    let there = subst (λ h. BookSteps c.handler-seat.result h (Asks HandOver) reply new) c.self.view_is c.in-Some.ensures in
    let steps = subst (λ s. BookSteps s old (Asks HandOver) reply new) c.handler-seat.ensures there in
    let history = subst IsHistory c.self.view_is c.is_history.ensures in
    (handed_turn old new reply (Handed c.in-Some.field-0) turn.Worked refl refl history c.requires steps).0

pub returns-in-Some-clause-shorter : goal.returns-in-Some-clause-shorter
returns-in-Some-clause-shorter g c =
    let old = c.args.self.now in
    let new = c.try_hand_over.new.self in
    let reply = Answered (Handed c.in-Some.field-0) None in
    let there = subst (λ h. BookSteps c.handler-seat.result h (Asks HandOver) reply new) c.self.view_is c.in-Some.ensures in
    let steps = subst (λ s. BookSteps s old (Asks HandOver) reply new) c.handler-seat.ensures there in
    let history = subst IsHistory c.self.view_is c.is_history.ensures in
    (handed_turn old new reply (Handed c.in-Some.field-0) turn.Worked refl refl history c.requires steps).1
