use Rattle.std.proofs.Common.{Some, ap, ◌∙◌}
use Rattle.jlr_machine.specs.declared.ask.Ask.TheVariants.{Clean}
use Rattle.jlr_state.specs.Machines.{machine_of}
use Rattle.jlr_state.specs.TakeUps.{started_answer}
use Rattle.jlr_state.proofs.Entries.{meets_plain}
use Rattle.jlr_state.proofs.TakeUps.{clean_after, clean_reply, cleanable_there}
use Rattle.jlr_steps.proofs.cleaning.clean.Goals as goal

pub returns-clause-meets : goal.returns-clause-meets
returns-clause-meets g c =
    let m = machine_of c.args.state.now in
    let answer = started_answer c.start_job.result in
    let slot = c.in_ok-slot.slot in
    let named = c.in_ok-slot.ensures.1 in
    let x = cleanable_there m slot c.in_ok-slot.ensures.4 in
    meets_plain m (machine_of c.start_job.new.self) (Clean c.args.by c.args.cleanable) answer tt c.in_ok-slot.ensures.0
    (clean_reply m c.args.by c.args.cleanable slot x.0 named x.1 ∙ ap Some (c.start_job.ensures.answer x.0 x.1))
    (c.start_job.ensures.cleaned ∙ clean_after m c.args.by c.args.cleanable slot answer named)
