use Rattle.std.proofs.Common.{ap, subst}
use Rattle.jlr_machine.specs.declared.ask.Ask.TheVariants.{Finish}
use Rattle.jlr_event.specs.declared.event.Event.TheVariants.{Ask as Asks}
use Rattle.jlr_book.specs.Rules.{EndsBy}
use Rattle.jlr_prog.proofs.solo.solo.Solo.finish.Goals as goal

pub returns-clause-told : goal.returns-clause-told
returns-clause-told g c =
    let ended = c.end_job.ensures in
    let event = Asks (Finish 255 c.args.job.action c.ended-outcome.result) in (
      event,
      ended.0,
      (c.finish.result, c.finish.ensures, ap (λ o. Asks (Finish 255 c.args.job.action o)) c.ended-outcome.ensures),
      subst (λ h. EndsBy c.args.seat h event ended.0 c.end_job.new.self) c.self.view_is ended.1,
    )
