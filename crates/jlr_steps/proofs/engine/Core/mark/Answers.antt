use Rattle.std.proofs.Common.{rules, None, refl, sym, subst}
use Rattle.jlr_machine.specs.declared.ask.Ask.TheVariants.{Begin}
use Rattle.jlr_machine.specs.WellFormed.{IsWellFormed}
use Rattle.jlr_machine.specs.Run.{no_choice}
use Rattle.jlr_laws.proofs.Frames.{no_some}
use Rattle.jlr_event.specs.declared.event.Event.TheVariants.{Mark}
use Rattle.jlr_event.specs.declared.event.Reply.TheVariants.{Marked}
use Rattle.jlr_state.specs.Machines.{machine_of}
use Rattle.jlr_state.specs.Waiting.{AllWait}
use Rattle.jlr_event.specs.declared.event.Event.{Event}
use Rattle.jlr_event.specs.declared.event.Reply.{Reply}
use Rattle.jlr_steps.specs.Cores.{Kept}
use Rattle.jlr_steps.specs.Dispatch.{StepsState}
use Rattle.jlr_steps.specs.Steps.{IsStep}
use Rattle.jlr_steps.proofs.CoreSteps.{kept_of, steps_core}
use Rattle.jlr_steps.proofs.engine.Core.mark.Goals as goal

pub invariant_of-self : goal.invariant_of-self
invariant_of-self g c =
    let same = sym c.mark.ensures.machine in (
      subst IsWellFormed same c.self.invariant.0,
      subst (λ w. AllWait (machine_of c.mark.new.self) w.waiting) (sym c.mark.ensures.cleaner)
          (subst (λ m. AllWait m c.self.inside.state.cleaner.waiting) same c.self.invariant.1),
    )

pub returns-clause-step : goal.returns-clause-step
returns-clause-step g c =
    let old = c.self.inside.state in
    let new = c.mark.new.self in
    let did = c.mark.ensures in
    let event : Event g.row.R.Denot = Mark c.args.budget in
    let reply : Reply g.row.R.Denot = Marked c.mark.result in
    let rest : StepsState old event None no_choice None new =
    record {
      flow = search rules;
      moves = search rules;
      goes_out = refl;
      memory = search rules;
      table_room = search rules;
      reached = did.reached;
      begins = λ none still. no_some Begin none;
      blackens = search rules;
      collects = search rules;
      swept = tt;
      policy = search rules;
      age = search rules;
      clock = search rules;
      cells = search rules;
      waits = search rules;
    } in
    subst (λ (k : Kept g.row.R.Denot). IsStep k event reply no_choice (kept_of new)) c.self.view_is
    (steps_core old new event reply no_choice c.self.invariant.0 (refl, did.machine) rest
    (c.mark.result, refl, did.piece))
