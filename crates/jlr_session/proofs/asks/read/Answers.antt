use Rattle.std.proofs.Common.{ℕ, None, refl, subst, sym}
use Rattle.jlr_machine.specs.declared.ask.Answer.TheVariants.{Refused}
use Rattle.jlr_machine.specs.declared.ask.Ask.TheVariants.{CheckOut}
use Rattle.jlr_event.specs.declared.event.Event.TheVariants.{Ask as Asks}
use Rattle.jlr_event.specs.declared.event.Reply.TheVariants.{Answered}
use Rattle.jlr_session.proofs.asks.read.Goals as goal

pub returns-in-Err : goal.returns-in-Err
returns-in-Err g c =
    let by = c.in-Err.by in
    let P : ℕ → Type 0 =
    λ m. g.P.Port.asking.asks c.args.port.now (Asks (CheckOut m c.args.guard)) (Answered (Refused by) None) c.args.port.now in (
      Answered (Refused by) None,
      c.args.port.now,
      subst P (sym c.requires) c.in-Err.ensures.declined,
      (c.write_over.ensures, refl {a = c.args.port.now}, tt),
    )
