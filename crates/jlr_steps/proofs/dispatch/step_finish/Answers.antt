use Rattle.std.proofs.Common.{subst, sym}
use Rattle.jlr_machine.specs.declared.ask.Ask.TheVariants.{Finish}
use Rattle.jlr_machine.specs.Run.{no_choice}
use Rattle.jlr_state.specs.Machines.{machine_of}
use Rattle.jlr_state.specs.State.{Meets}
use Rattle.jlr_state.proofs.Entries.{meets_answered}
use Rattle.jlr_steps.proofs.dispatch.step_finish.Goals as goal

pub returns-clause-entry : goal.returns-clause-entry
returns-clause-entry g c =
    let m = machine_of c.args.state.now in
    let n = machine_of c.finish.new.state in
    let ask = Finish c.args.by c.args.action c.args.outcome in
    subst (λ a. Meets m ask a no_choice n) (sym c.answer_to.ensures) (meets_answered m n ask c.finish.result tt c.finish.ensures.answered)
