use Rattle.std.proofs.Common.{◌≡◌, refl}
use Rattle.jlr_types.specs.declared.Refusal.TheVariants.{NoMemory}
use Rattle.jlr_machine.specs.declared.ask.Ask.TheVariants.{Opened}
use Rattle.jlr_state.specs.Machines.{machine_of}
use Rattle.jlr_event.specs.Events.{outcome_of}
use Rattle.jlr_state.proofs.Entries.{meets_refused, never_memory}
use Rattle.jlr_state.proofs.state.State.opened.Goals as goal

pub returns-in-Err-clause-entry : goal.returns-in-Err-clause-entry
returns-in-Err-clause-entry g c =
    let outcome = outcome_of c.args.outcome in
    meets_refused (machine_of c.args.self.now) (Opened c.args.by outcome) c.in-Err.refusal (c.in-Err.ensures outcome)

pub returns-in-Err-clause-memory : goal.returns-in-Err-clause-memory
returns-in-Err-clause-memory g c =
    λ e.
    let outcome = outcome_of c.args.outcome in
    let memory_refusal : c.in-Err.refusal ≡ NoMemory = cc e in
    never_memory (machine_of c.args.self.now) (Opened c.args.by outcome) c.in-Err.refusal refl (c.in-Err.ensures outcome) memory_refusal
