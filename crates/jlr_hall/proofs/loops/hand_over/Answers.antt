use Rattle.std.proofs.Common.{refl}
use Rattle.std.specs.Sync.Mutex.{mutex_guard_value}
use Rattle.jlr_machine.specs.declared.ask.Ask.TheVariants.{HandOver}
use Rattle.jlr_event.specs.declared.event.Event.TheVariants.{Ask as Asks}
use Rattle.jlr_hall.specs.Loops.{IsHandlers}
use Rattle.jlr_hall.proofs.Turns.{asked_there, asks_more}
use Rattle.jlr_hall.proofs.loops.hand_over.Goals as goal

pub returns-then-was_refused : goal.returns-then-was_refused
returns-then-was_refused g c = λ first h.
    let limits = g.L.Limited.limits in
    asks_more limits (IsHandlers limits) (Asks HandOver) c.ask_plain_under.result first c.args.seat.now c.ask_plain_under.new.self h
    (asked_there limits (IsHandlers limits) (mutex_guard_value c.args.locked).log c.args.seat.now (Asks HandOver) c.ask_plain_under.result
    c.ask_plain_under.new.self (refl, c.requires) c.ask_plain_under.ensures.asked)

pub returns-else-was_refused : goal.returns-else-was_refused
returns-else-was_refused g c = λ first h.
    let limits = g.L.Limited.limits in
    asks_more limits (IsHandlers limits) (Asks HandOver) c.ask_plain_under.result first c.args.seat.now c.ask_plain_under.new.self h
    (asked_there limits (IsHandlers limits) (mutex_guard_value c.args.locked).log c.args.seat.now (Asks HandOver) c.ask_plain_under.result
    c.ask_plain_under.new.self (refl, c.requires) c.ask_plain_under.ensures.asked)
