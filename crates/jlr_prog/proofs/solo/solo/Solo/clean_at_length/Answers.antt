use Rattle.std.proofs.Common.{subst, sym, ◌∙◌}
use Rattle.jlr_machine.specs.declared.ask.Ask.TheVariants.{TakeUp}
use Rattle.jlr_event.specs.declared.event.Event.{Event}
use Rattle.jlr_event.specs.declared.event.Event.TheVariants.{Ask as Asks}
use Rattle.jlr_book.specs.Rules.{BookSteps}
use Rattle.jlr_prog.proofs.TakingUp.{idle_turn, worked_turn}
use Rattle.jlr_prog.proofs.solo.solo.Solo.clean_at_length.Goals as goal

pub returns-in-Ok-clause-turn : goal.returns-in-Ok-clause-turn
returns-in-Ok-clause-turn g c =
    let old = c.args.self.now in
    let between = c.step.new.self in
    let new = c.finish.new.self in
    let told = c.finish.ensures.told in
    let took = subst (λ s. BookSteps s old (Asks TakeUp) c.step.result between) c.cleaner-seat.ensures
    (subst (λ (e : Event g.row.R.Denot). BookSteps c.cleaner-seat.result old e c.step.result c.step.new.self) c.ask.ensures
    c.step.ensures.steps) in
    let tells = subst (λ s. BookSteps s between told.0 told.1 new) c.cleaner-seat.ensures told.3 in
    (worked_turn g.R.Resource.handling old between new c.step.result told.1 c.in-Ok.job told.0
    (sym c.job_of.ensures ∙ c.in-Ok.is) c.step.ensures.before c.finish.ensures.before c.requires took told.2 tells).0

pub returns-in-Ok-clause-shorter : goal.returns-in-Ok-clause-shorter
returns-in-Ok-clause-shorter g c =
    let old = c.args.self.now in
    let between = c.step.new.self in
    let new = c.finish.new.self in
    let told = c.finish.ensures.told in
    let took = subst (λ s. BookSteps s old (Asks TakeUp) c.step.result between) c.cleaner-seat.ensures
    (subst (λ (e : Event g.row.R.Denot). BookSteps c.cleaner-seat.result old e c.step.result c.step.new.self) c.ask.ensures
    c.step.ensures.steps) in
    let tells = subst (λ s. BookSteps s between told.0 told.1 new) c.cleaner-seat.ensures told.3 in
    (worked_turn g.R.Resource.handling old between new c.step.result told.1 c.in-Ok.job told.0
    (sym c.job_of.ensures ∙ c.in-Ok.is) c.step.ensures.before c.finish.ensures.before c.requires took told.2 tells).1

pub returns-in-Err-clause-turn : goal.returns-in-Err-clause-turn
returns-in-Err-clause-turn g c =
    let old = c.args.self.now in
    let took = subst (λ s. BookSteps s old (Asks TakeUp) c.step.result c.step.new.self) c.cleaner-seat.ensures
    (subst (λ (e : Event g.row.R.Denot). BookSteps c.cleaner-seat.result old e c.step.result c.step.new.self) c.ask.ensures
    c.step.ensures.steps) in
    (idle_turn g.R.Resource.handling old c.step.new.self c.step.result c.in-Err.answer c.turn_after.result
    (sym c.job_of.ensures ∙ c.in-Err.is) c.turn_after.ensures c.step.ensures.before c.requires took).0

pub returns-in-Err-clause-shorter : goal.returns-in-Err-clause-shorter
returns-in-Err-clause-shorter g c =
    let old = c.args.self.now in
    let took = subst (λ s. BookSteps s old (Asks TakeUp) c.step.result c.step.new.self) c.cleaner-seat.ensures
    (subst (λ (e : Event g.row.R.Denot). BookSteps c.cleaner-seat.result old e c.step.result c.step.new.self) c.ask.ensures
    c.step.ensures.steps) in
    (idle_turn g.R.Resource.handling old c.step.new.self c.step.result c.in-Err.answer c.turn_after.result
    (sym c.job_of.ensures ∙ c.in-Err.is) c.turn_after.ensures c.step.ensures.before c.requires took).1
