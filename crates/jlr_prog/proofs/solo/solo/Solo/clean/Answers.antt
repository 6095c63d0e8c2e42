use Rattle.std.proofs.Common.{None, Ok, ap, refl, subst, ◌∙◌}
use Rattle.jlr_machine.specs.declared.ask.Answer.TheVariants.{Handed, Job}
use Rattle.jlr_machine.specs.declared.ask.Handed.TheVariants.{Nothing}
use Rattle.jlr_machine.specs.declared.ask.Ask.TheVariants.{TakeUp}
use Rattle.jlr_event.specs.declared.event.Event.TheVariants.{Ask as Asks}
use Rattle.jlr_event.specs.declared.event.Reply.TheVariants.{Answered}
use Rattle.jlr_book.specs.Cores.{handed_out, take_up_answered}
use Rattle.jlr_book.specs.Histories.{IsHistory}
use Rattle.jlr_book.specs.Rules.{BookSteps}
use Rattle.jlr_prog.specs.declared.solo.solo.Turn.TheVariants as turn
use Rattle.jlr_prog.proofs.TakingUp.{idle_turn, worked_turn}
use Rattle.jlr_prog.proofs.solo.solo.Solo.clean.Goals as goal

-- ---- A job

pub returns-in-Some-Ok-Some-clause-turn : goal.returns-in-Some-Ok-Some-clause-turn
returns-in-Some-Ok-Some-clause-turn g c =
    let old = c.args.self.now in
    let between = c.try_take_up.new.self in
    let new = c.finish.new.self in
    let job = c.in-Some-Ok-Some.job in
    let told = c.finish.ensures.told in
    let reply = Answered (Job job.action job.work) job.resource in
    let is = c.in-Some-Ok-Some.field-0-is ∙ ap Ok c.in-Some-Ok-Some.field-0-0-is in
    let does = subst
    (λ t. BookSteps c.cleaner-seat.result c.self.inside.book (Asks TakeUp) (Answered (take_up_answered t) (handed_out t)) between)
    is c.in-Some-Ok-Some.ensures in
    let there = subst (λ h. BookSteps c.cleaner-seat.result h (Asks TakeUp) reply between) c.self.view_is does in
    let took = subst (λ s. BookSteps s old (Asks TakeUp) reply between) c.cleaner-seat.ensures there in
    let tells = subst (λ s. BookSteps s between told.0 told.1 new) c.cleaner-seat.ensures told.3 in
    let history = subst IsHistory c.self.view_is c.is_history.ensures in
    (worked_turn g.R.Resource.handling old between new reply told.1 job told.0 refl history
    c.finish.ensures.before c.requires took told.2 tells).0

pub returns-in-Some-Ok-Some-clause-shorter : goal.returns-in-Some-Ok-Some-clause-shorter
returns-in-Some-Ok-Some-clause-shorter g c =
    let old = c.args.self.now in
    let between = c.try_take_up.new.self in
    let new = c.finish.new.self in
    let job = c.in-Some-Ok-Some.job in
    let told = c.finish.ensures.told in
    let reply = Answered (Job job.action job.work) job.resource in
    let is = c.in-Some-Ok-Some.field-0-is ∙ ap Ok c.in-Some-Ok-Some.field-0-0-is in
    let does = subst
    (λ t. BookSteps c.cleaner-seat.result c.self.inside.book (Asks TakeUp) (Answered (take_up_answered t) (handed_out t)) between)
    is c.in-Some-Ok-Some.ensures in
    let there = subst (λ h. BookSteps c.cleaner-seat.result h (Asks TakeUp) reply between) c.self.view_is does in
    let took = subst (λ s. BookSteps s old (Asks TakeUp) reply between) c.cleaner-seat.ensures there in
    let tells = subst (λ s. BookSteps s between told.0 told.1 new) c.cleaner-seat.ensures told.3 in
    let history = subst IsHistory c.self.view_is c.is_history.ensures in
    (worked_turn g.R.Resource.handling old between new reply told.1 job told.0 refl history
    c.finish.ensures.before c.requires took told.2 tells).1

-- ---- None of the line was Lined

pub returns-in-Some-Ok-None-clause-shorter : goal.returns-in-Some-Ok-None-clause-shorter
returns-in-Some-Ok-None-clause-shorter g c =
    let old = c.args.self.now in
    let new = c.try_take_up.new.self in
    let reply = Answered (Handed Nothing) None in
    let is = c.in-Some-Ok-None.field-0-is ∙ ap Ok c.in-Some-Ok-None.field-0-0-is in
    let does = subst
    (λ t. BookSteps c.cleaner-seat.result c.self.inside.book (Asks TakeUp) (Answered (take_up_answered t) (handed_out t)) new)
    is c.in-Some-Ok-None.ensures in
    let there = subst (λ h. BookSteps c.cleaner-seat.result h (Asks TakeUp) reply new) c.self.view_is does in
    let took = subst (λ s. BookSteps s old (Asks TakeUp) reply new) c.cleaner-seat.ensures there in
    let history = subst IsHistory c.self.view_is c.is_history.ensures in
    (idle_turn g.R.Resource.handling old new reply (Handed Nothing) turn.Worked refl refl history c.requires took).1
