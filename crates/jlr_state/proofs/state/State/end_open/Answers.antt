use Rattle.std.proofs.Common.{◌≡◌, None, Some, sym, ap, subst, ◌∙◌}
use Rattle.jlr_machine.specs.declared.ask.Ask.TheVariants.{Opened}
use Rattle.jlr_machine.specs.declared.ask.Outcome.{Outcome}
use Rattle.jlr_machine.specs.declared.ask.Outcome.TheVariants.{Ok as EndedOk, Failed}
use Rattle.jlr_machine.specs.declared.machine.ResourceState.TheVariants.{Opening}
use Rattle.jlr_machine.specs.Refusals.{refusal}
use Rattle.jlr_machine.specs.Run.{no_choice}
use Rattle.jlr_event.specs.Events.{outcome_of}
use Rattle.jlr_state.specs.Machines.{machine_of}
use Rattle.jlr_state.specs.State.{Meets}
use Rattle.jlr_state.proofs.Entries.{meets_plain}
use Rattle.jlr_state.proofs.Guards.{opened_is}
use Rattle.jlr_state.proofs.state.State.end_open.Goals as goal

pub returns-in-Ok-clause-meets : goal.returns-in-Ok-clause-meets
returns-in-Ok-clause-meets g c =
    let m = machine_of c.args.self.now in
    let n = machine_of c.open_done.new.self in
    let k = c.args.by in
    let is : outcome_of c.args.outcome ≡ EndedOk = ap outcome_of c.in-Ok.is in
    subst (λ (o : Outcome). Meets m (Opened k o) c.open_done.result no_choice n) (sym is)
    (meets_plain m n (Opened k EndedOk) c.open_done.result tt (subst (λ (o : Outcome). refusal m (Opened k o) ≡ None) is c.requires.allowed)
    c.open_done.ensures.answer
    (c.open_done.ensures.opened ∙ opened_is m k c.args.held Opening EndedOk c.open_done.result c.requires.held))

pub returns-in-Err-clause-meets : goal.returns-in-Err-clause-meets
returns-in-Err-clause-meets g c =
    let m = machine_of c.args.self.now in
    let n = machine_of c.open_failed.new.self in
    let k = c.args.by in
    let failed : Outcome = Failed c.in-Err.fault in
    let is : outcome_of c.args.outcome ≡ failed = ap outcome_of c.in-Err.is in
    subst (λ (o : Outcome). Meets m (Opened k o) c.open_failed.result no_choice n) (sym is)
    (meets_plain m n (Opened k failed) c.open_failed.result tt
    (subst (λ (o : Outcome). refusal m (Opened k o) ≡ None) is c.requires.allowed) (ap Some (sym c.open_failed.ensures.answer))
    (c.open_failed.ensures.opened ∙ opened_is m k c.args.held Opening failed c.open_failed.result c.requires.held))
