use Rattle.std.proofs.Common.{subst}
use Rattle.std.specs.Sync.Mutex.{mutex_guard_value}
use Rattle.jlr_event.specs.declared.event.Event.{Event}
use Rattle.jlr_hall.specs.Asking.{AskedIn}
use Rattle.jlr_hall.proofs.Plain.{brings_none}
use Rattle.jlr_hall.proofs.seat.Seat.ask_plain_under.Goals as goal

pub ask_under-requires : goal.ask_under-requires
ask_under-requires g c = brings_none (Unit {0}) c.ask.result c.args.ask c.ask.ensures c.requires.plain

pub returns-clause-asked : goal.returns-clause-asked
returns-clause-asked g c =
    subst (λ (e : Event g.row.R.Denot). AskedIn g.L.Limited.limits (mutex_guard_value c.args.locked).log c.args.self.now e
    c.ask_under.result c.ask_under.new.self) c.ask.ensures
    c.ask_under.ensures.asked
