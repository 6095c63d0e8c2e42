use Rattle.std.proofs.Common.{None, Some, subst, sym}
use Rattle.jlr_event.specs.declared.event.Event.TheVariants.{Ask as Asks}
use Rattle.jlr_event.specs.declared.event.Reply.TheVariants.{Answered}
use Rattle.jlr_event.specs.declared.event.Event.{Event}
use Rattle.jlr_machine.specs.declared.ask.Answer.{Answer}
use Rattle.jlr_state.specs.State.{answer_of}
use Rattle.jlr_steps.specs.Cores.{Kept}
use Rattle.jlr_steps.specs.Steps.{IsStep}
use Rattle.jlr_steps.proofs.CoreSteps.{keeps_invariant, kept_of, steps_core}
use Rattle.jlr_steps.proofs.engine.Core.answer.Goals as goal

pub invariant_of-self : goal.invariant_of-self
invariant_of-self g c =
    let did = c.step_plain.ensures in
    keeps_invariant {R = g.row.R.Denot} c.self.inside.state c.step_plain.new.state
    (Asks c.args.ask.now) (Some (answer_of c.step_plain.result))
    c.step_plain.new.choice.chosen None c.self.invariant.0 c.self.invariant.1 did.entry did.rest

pub returns-clause-step : goal.returns-clause-step
returns-clause-step g c =
    let did = c.step_plain.ensures in
    let new = c.step_plain.new.state in
    let event : Event g.row.R.Denot = Asks c.args.ask.now in
    let chosen = c.step_plain.new.choice.chosen in
    let answered : IsStep (kept_of c.self.inside.state) event (Answered (answer_of c.step_plain.result) None) chosen (kept_of new) =
    steps_core c.self.inside.state new event (Answered (answer_of c.step_plain.result) None) chosen c.self.invariant.0 did.entry
    did.rest tt in
    subst (λ (k : Kept g.row.R.Denot). IsStep k event (Answered c.answer_to.result None) chosen (kept_of new)) c.self.view_is
    (subst (λ (a : Answer). IsStep (kept_of c.self.inside.state) event (Answered a None) chosen (kept_of new))
    (sym c.answer_to.ensures) answered)
