use Rattle.std.proofs.Common.{ℕ, subst}
use Rattle.std.specs.Prelude.{Option}
use Rattle.jlr_machine.specs.declared.ask.Ask.{Ask}
use Rattle.jlr_session.specs.Asks.{AsksOnce, ask_by}
use Rattle.jlr_session.proofs.Once.{carried_once}
use Rattle.jlr_session.proofs.asks.ByAsksCarryOut.carry_out.Goals as goal

pub returns-in-Some : goal.returns-in-Some
returns-in-Some g c =
    let P : ℕ → Type 0 =
    λ m. AsksOnce g.P.Port.asking (ask_by m c.args.command.now) c.args.heap.now c.answer.new.answer c.answer.new.self in
    let Q : Option Ask → Type 0 =
    λ asked. AsksOnce g.P.Port.asking asked c.args.heap.now c.answer.new.answer c.answer.new.self in
    carried_once g.P.Port.asking (record {
      count = g.D.Device.count;
      opens = g.D.Device.may_open;
      connects = g.D.Device.may_connect;
      failures = g.D.Res.Resource.handling.count;
    }) g.D.Res.Resource.handling _ c.args.command.now _ _ _ _
    c.in_default.not-Open c.in_default.not-Connect c.in_default.not-Read c.in_default.not-Write c.in_default.not-Clean
    c.in_default.not-Close (subst P c.mutator-mutator.ensures
    (subst Q {y = ask_by c.mutator-mutator.result c.args.command.now} c.in-Some.ensures.ask c.answer.ensures.answered))
