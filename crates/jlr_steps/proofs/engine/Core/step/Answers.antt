use Rattle.std.proofs.Common.{subst}
use Rattle.jlr_event.specs.Events.{answer_in, resource_of_reply}
use Rattle.jlr_event.specs.declared.event.Event.{Event}
use Rattle.jlr_event.specs.declared.event.Reply.{Reply}
use Rattle.jlr_steps.specs.Cores.{Kept}
use Rattle.jlr_steps.specs.Steps.{IsStep}
use Rattle.jlr_steps.proofs.CoreSteps.{keeps_invariant, kept_of, steps_core}
use Rattle.jlr_steps.proofs.engine.Core.step.Goals as goal

pub invariant_of-self : goal.invariant_of-self
invariant_of-self g c =
    let did = c.step.ensures in
    keeps_invariant {R = g.row.R.Denot} c.self.inside.state c.step.new.state
    c.args.event (answer_in c.step.result)
    c.step.new.choice.chosen (resource_of_reply c.step.result) c.self.invariant.0 c.self.invariant.1 did.entry did.rest

pub returns-clause-step : goal.returns-clause-step
returns-clause-step g c =
    let did = c.step.ensures in
    let new = c.step.new.state in
    let event : Event g.row.R.Denot = c.args.event in
    let reply : Reply g.row.R.Denot = c.step.result in
    let chosen = c.step.new.choice.chosen in
    subst (λ (k : Kept g.row.R.Denot). IsStep k event reply chosen (kept_of new)) c.self.view_is
    (steps_core c.self.inside.state new event reply chosen c.self.invariant.0 did.entry did.rest did.marking)
