use Rattle.std.proofs.Common.{None, Some, subst}
use Rattle.jlr_machine.specs.declared.ask.Ask.TheVariants.{HandOver}
use Rattle.jlr_machine.specs.declared.ask.Answer.TheVariants.{Handed}
use Rattle.jlr_machine.specs.Run.{no_choice}
use Rattle.jlr_event.specs.declared.event.Event.TheVariants.{Ask as Asks}
use Rattle.jlr_event.specs.declared.event.Reply.TheVariants.{Answered}
use Rattle.jlr_event.specs.declared.event.Event.{Event}
use Rattle.jlr_event.specs.declared.event.Reply.{Reply}
use Rattle.jlr_steps.specs.Cores.{Kept}
use Rattle.jlr_steps.specs.Steps.{IsStep}
use Rattle.jlr_steps.proofs.CoreSteps.{keeps_invariant, kept_of, steps_core}
use Rattle.jlr_steps.proofs.engine.Core.hand_over.Goals as goal

pub invariant_of-self : goal.invariant_of-self
invariant_of-self g c =
    let did = c.step_handler.ensures in
    keeps_invariant {R = g.row.R.Denot} c.self.inside.state c.step_handler.new.state
    (Asks HandOver) (Some (Handed c.step_handler.result))
    no_choice None c.self.invariant.0 c.self.invariant.1 did.entry did.rest

pub returns-clause-step : goal.returns-clause-step
returns-clause-step g c =
    let did = c.step_handler.ensures in
    let new = c.step_handler.new.state in
    let event : Event g.row.R.Denot = Asks HandOver in
    let reply : Reply g.row.R.Denot = Answered (Handed c.step_handler.result) None in
    let chosen = no_choice in
    subst (λ (k : Kept g.row.R.Denot). IsStep k event reply chosen (kept_of new)) c.self.view_is
    (steps_core c.self.inside.state new event reply chosen c.self.invariant.0 did.entry did.rest tt)
